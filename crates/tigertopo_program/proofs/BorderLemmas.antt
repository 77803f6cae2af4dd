-- Lemmas on borders that are made.
pub mod BorderLemmas
