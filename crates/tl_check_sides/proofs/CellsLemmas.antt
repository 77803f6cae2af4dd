pub mod Places
pub mod Rising
pub mod Cells
