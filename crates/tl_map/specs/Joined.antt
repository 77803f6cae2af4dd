pub mod Keeping
pub mod Told
