-- What is kept of files in memory. No public contract cites a file of this folder.
pub mod Stored
