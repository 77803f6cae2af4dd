-- What the code keeps beside a map. No public contract cites a file of this folder.
pub mod Numbered
pub mod Noded
pub mod Sides
pub mod Remaining
