-- What the contracts of objects cite.
pub mod About
pub mod Places
pub mod Ends
pub mod Texts
