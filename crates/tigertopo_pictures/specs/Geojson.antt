-- What the contracts of GeoJSON cite.
pub mod Strings
pub mod Positions
pub mod Areas
pub mod Metres
pub mod Features
pub mod Holes
pub mod Rings
