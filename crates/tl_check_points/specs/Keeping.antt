-- What is kept on the way. No public contract cites a file of this folder.
pub mod Balances
pub mod Ways
pub mod Labels
pub mod UnderWay
pub mod Visits
pub mod Short
pub mod Parts
pub mod Left
