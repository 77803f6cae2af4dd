pub mod Disagreements
pub mod Touched
pub mod CellOdds
pub mod Keeping
