-- What the laws cite.
pub mod Told
pub mod Homes
pub mod Joined
pub mod Borders
pub mod Lines
pub mod Sound
