pub mod Places
pub mod Told
pub mod Along
pub mod Zipped
pub mod Agreeing
pub mod Apart
pub mod Lowest
pub mod Exact
