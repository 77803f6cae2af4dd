-- What is kept on the way. No public contract cites a file of this folder.
pub mod Listed
pub mod Probing
pub mod Strips
pub mod Sifted
pub mod Sums
pub mod Tallies
