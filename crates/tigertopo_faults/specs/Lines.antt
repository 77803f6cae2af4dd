-- What the contracts of faults with their places cite.
pub mod Places
pub mod Keyed
pub mod Texts
pub mod Speaking
