-- What the contracts of lists of refused lines cite.
pub mod Listing
