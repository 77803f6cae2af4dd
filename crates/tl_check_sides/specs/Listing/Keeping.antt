-- What is kept on the way. No public contract cites a file of this folder.
pub mod Around
pub mod Grouped
pub mod Telling
pub mod Starts
pub mod Odds
pub mod Named
pub mod Listed
