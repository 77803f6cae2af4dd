pub mod AllFaults
pub mod Shapes
pub mod Kept
pub mod Keeping
pub mod Refusals
