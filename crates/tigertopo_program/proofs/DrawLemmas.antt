-- Lemmas on drawing.
pub mod DrawLemmas
pub mod SubjectLemmas
