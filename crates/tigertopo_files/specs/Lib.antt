-- What the contracts of files cite.
pub mod Joining
pub mod Counting
pub mod Files
pub mod Log
pub mod World
pub mod Reading
pub mod Printing
