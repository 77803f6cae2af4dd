-- What the calls of the list cite.
pub mod Lined
pub mod Keeping
