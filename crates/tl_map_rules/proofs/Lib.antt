pub mod CountLemmas
pub mod KnownLemmas
pub mod LackingLemmas
pub mod OneMapLemmas
pub mod PairLemmas
pub mod PartLemmas
pub mod KeyLemmas
pub mod ListingLemmas
