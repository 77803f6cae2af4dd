-- Lemmas on pictures.
pub mod DrawingLemmas
pub mod FrameLemmas
pub mod TextLemmas
pub mod PlaceLemmas
pub mod ColourLemmas
pub mod FillLemmas
