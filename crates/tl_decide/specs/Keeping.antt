-- What is kept on the way. No public contract cites a file of this folder.
pub mod OfMap
pub mod Tracing
pub mod Gapped
