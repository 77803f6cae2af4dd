-- What the contracts of printing cite.
pub mod Printing
pub mod Places
