pub mod AllMisplaced
pub mod Hidden
pub mod Keeping
