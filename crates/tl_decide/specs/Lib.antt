pub mod MapFaults
pub mod Deciding
pub mod Keeping
