-- What the laws cite.
pub mod Heights
pub mod Headings
pub mod West
pub mod Boxes
pub mod Told
pub mod Rings
pub mod Neighbours
