pub mod PlaceLemmas
pub mod TwinLemmas
pub mod ApartLemmas
pub mod JoinLemmas
pub mod LastLemmas
