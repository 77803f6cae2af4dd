-- What the contracts of borders cite.
pub mod Spelling
pub mod Spellable
pub mod Border
pub mod Readable
pub mod Again
pub mod Parts
pub mod InParts
pub mod Whole
