-- What the checker keeps on its way.
pub mod Keeping
