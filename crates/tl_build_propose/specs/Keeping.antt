-- What is proposed, and what the calls keep on their way. Of other crates, `tl_build` alone cites a file of this folder.
pub mod Lists
pub mod Sorting
pub mod Following
pub mod Proposed
pub mod Siding
pub mod Counted
