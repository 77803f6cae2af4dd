-- What the checker keeps on its way. No public contract cites a file of this folder.
pub mod Searching
pub mod Parts
pub mod Answers
pub mod Streams
pub mod Read
pub mod Faces
