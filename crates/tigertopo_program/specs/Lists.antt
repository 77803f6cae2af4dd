-- What the contracts of lists cite.
pub mod Listed
pub mod Keeping
