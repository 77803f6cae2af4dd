-- What proofs keep on their way. No public contract cites a file of this folder.
pub mod Clear
