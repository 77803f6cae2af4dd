pub mod MarkLemmas
pub mod ListLemmas
pub mod Headings
pub mod Turns
mod SortLemmas
mod Sorting
pub mod WholeRounds
pub mod Ends
pub mod NodeFacts
pub mod RisingFacts
pub mod LinkFacts
pub mod TakeFacts
pub mod FollowFacts
pub mod WalkFacts
pub mod Boundaries
pub mod Lasting
pub mod Lent
pub mod CellsLemmas
pub mod ListingLemmas
