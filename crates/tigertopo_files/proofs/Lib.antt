-- Lemmas on files.
pub mod JoiningLemmas
pub mod CountingLemmas
pub mod CountsLemmas
pub mod FailureLemmas
pub mod WorldLemmas
pub mod OpeningLemmas
pub mod LendingLemmas
