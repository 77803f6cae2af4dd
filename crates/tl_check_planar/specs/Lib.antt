pub mod Planar
pub mod Meets
pub mod Rectangles
pub mod Searching
pub mod Keeping
pub mod ByHeight
pub mod Listing
