-- What the contracts of pictures cite.
pub mod Frames
pub mod Strokes
pub mod Pictures
pub mod Texts
pub mod Colours
pub mod Fills
pub mod Whole
