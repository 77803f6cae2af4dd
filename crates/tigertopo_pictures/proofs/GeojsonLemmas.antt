-- Lemmas on what is printed.
pub mod AreaLemmas
pub mod FeatureLemmas
pub mod TextLemmas
pub mod HoleLemmas
pub mod MetresLemmas
