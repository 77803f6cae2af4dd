-- What the contracts of certificates cite.
pub mod Certificates
pub mod Text
pub mod Beginnings
pub mod Given
pub mod Reading
pub mod Writing
pub mod Keeping
