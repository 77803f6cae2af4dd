pub mod Heights
pub mod Neighbours
pub mod Slabs
pub mod Keeping
