-- What the contracts of the builder cite.
pub mod Building
pub mod Auditing
pub mod Keeping
