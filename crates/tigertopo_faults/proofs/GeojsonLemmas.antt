-- Lemmas on what is printed of faults.
pub mod ListLemmas
pub mod ChainLemmas
