-- What the code keeps on its way. No public contract cites a file of this folder.
pub mod Told
