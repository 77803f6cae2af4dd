-- What the contracts on counts at points cite.
pub mod Counts
pub mod Keeping
pub mod Listing
