pub mod Joined
pub mod Places
pub mod Told
