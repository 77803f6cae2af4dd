-- What is kept on the way of a sweep.
pub mod Vertices
pub mod Swept
pub mod Facing
pub mod Watched
pub mod Passing
pub mod Kept
pub mod Spotted
pub mod Ranges
