-- What the contracts of places cite.
pub mod LinePlaces
pub mod Finding
pub mod FieldColumns
pub mod Degrees
