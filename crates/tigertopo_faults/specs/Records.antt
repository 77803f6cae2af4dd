-- What the contracts of record lines cite.
pub mod SpokenOf
pub mod Naming
pub mod Ends
pub mod Kept
pub mod Keeping
pub mod Wanting
pub mod Finding
pub mod Walking
