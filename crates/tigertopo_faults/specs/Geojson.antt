-- What the contracts of a map of faults cite.
pub mod Named
pub mod Places
pub mod Records
pub mod Texts
