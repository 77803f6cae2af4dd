-- What is kept on the way: the faults that are told so far, and the sorted lists that tell them. No public contract cites a file of this folder.
pub mod Told
pub mod Numbers
pub mod Keys
pub mod Areas
pub mod Runs
pub mod Chains
pub mod Limits
pub mod Parts
