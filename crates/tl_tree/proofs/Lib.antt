pub mod PairLemmas
pub mod PairTests
pub mod Leaving
pub mod Choosing
pub mod Steps
pub mod Apart
pub mod Walks
pub mod Permuted
pub mod Finishing
pub mod Indices
pub mod Hitting
pub mod Flat
pub mod Hulls
pub mod Checks
pub mod Whole
mod Marks8
mod Roots
mod CellRows
mod Listing
mod OwnPairs
