-- What is kept on the way. No public contract cites a file of this folder.
pub mod Listing
pub mod Reaching
pub mod Telling
pub mod Pairing
pub mod Marking
