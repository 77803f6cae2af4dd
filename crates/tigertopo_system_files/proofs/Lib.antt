-- Lemmas on the system's files.
pub mod FrontLemmas
pub mod ReadLemmas
pub mod WordLemmas
pub mod LookLemmas
