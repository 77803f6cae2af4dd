-- What the contracts of faults cite.
pub mod Places
pub mod Hint
pub mod Records
pub mod Lines
pub mod Geojson
pub mod Objects
pub mod Told
