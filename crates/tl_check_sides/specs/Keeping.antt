-- What rounds and walks keep on their way: what the two state types hold of the lists that they took.
pub mod Marked
pub mod Rounded
pub mod Walked
