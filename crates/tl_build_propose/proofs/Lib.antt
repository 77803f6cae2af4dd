pub mod ListLemmas
pub mod SortLemmas
mod StartLemmas
pub mod CutLemmas
pub mod RoundLemmas
pub mod WalkLemmas
pub mod LinkLemmas
pub mod RingLemmas
pub mod MarkFacts
pub mod Holding
pub mod Packed
pub mod SideLemmas
pub mod Soundness
pub mod CountLemmas
