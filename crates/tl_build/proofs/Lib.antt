pub mod Recorded
pub mod Exactly
pub mod Decided
