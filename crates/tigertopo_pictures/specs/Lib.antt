-- What the contracts of files for other programs cite.
pub mod Groups
pub mod Items
pub mod Walks
pub mod Rings
pub mod Geojson
pub mod Svg
pub mod Spelling
pub mod SpellingLaws
