-- What is kept on the way. No public contract cites a file of this folder.
pub mod Odd
pub mod Parts
pub mod Known
pub mod Joined
pub mod Hiding
