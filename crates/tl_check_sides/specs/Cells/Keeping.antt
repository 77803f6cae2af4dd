-- What is kept on the way: the first id at each node, and these by rising id.
pub mod Kept
