pub mod Plane
pub mod Lowest
pub mod Contact
pub mod Turning
pub mod Ray
pub mod Rectangle
pub mod EightRectangles
pub mod Keeping
