-- What the builder keeps on its way. No public contract cites a file of this folder.
pub mod Refusing
pub mod Deciding
