-- What checks and walks keep on their way. No public contract cites a file of this folder.
pub mod Marked
pub mod Nodes
