-- What is kept on the way. No public contract cites a file of this folder.
pub mod Blocks
