-- What the contracts of zero-cell ids cite.
pub mod Cells
pub mod Keeping
