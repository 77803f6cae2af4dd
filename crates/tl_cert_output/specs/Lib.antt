-- What the contracts of output cite.
pub mod Writing
pub mod Printed
pub mod Printing
pub mod Pages
pub mod PageLaws
pub mod Stops
pub mod Streams
pub mod Texts
