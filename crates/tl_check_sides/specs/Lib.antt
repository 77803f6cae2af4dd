-- What the contracts of sides, rounds and walks cite.
pub mod Lists
pub mod Sides
pub mod Headed
pub mod Rounds
pub mod Walks
pub mod Keeping
pub mod Cells
pub mod Listing
