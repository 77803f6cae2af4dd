-- What searches, checks and boxed trees keep on their way. No public contract cites a file of this folder.
pub mod Walking
pub mod Sizes
pub mod Checking
pub mod Branches
pub mod Boxed
pub mod Marking
pub mod Cells
pub mod OwnPairs
pub mod Listing
