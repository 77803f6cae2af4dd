pub mod MapListings
pub mod Listings
pub mod Telling
pub mod Alike
pub mod Findings
pub mod Noting
pub mod Keeping
