-- What the code keeps on its way from the records to the map. No public contract cites a file of this folder.
pub mod Unbuilt
pub mod Entries
pub mod Rows
pub mod Collected
pub mod Built
pub mod Gathering
pub mod Index
pub mod Sided
pub mod Kept
pub mod Areas
pub mod Landmarks
pub mod Mapped
