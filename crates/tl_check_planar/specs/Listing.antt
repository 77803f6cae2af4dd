pub mod Orders
pub mod Conflicts
pub mod Meets
pub mod Keeping
