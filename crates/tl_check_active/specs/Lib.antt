-- What the calls of a sweep's list and its events cite.
pub mod Vertices
pub mod Events
pub mod Ranges
pub mod Gathered
pub mod Passed
pub mod Keeping
pub mod Blocks
