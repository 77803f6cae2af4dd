-- Lemmas on what is printed of listings.
pub mod LineLemmas
pub mod PrintLemmas
pub mod NotedLemmas
