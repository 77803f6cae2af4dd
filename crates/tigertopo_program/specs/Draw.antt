-- What the contracts of drawing cite.
pub mod Subjects
pub mod Keeping
pub mod Drawing
