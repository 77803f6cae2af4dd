pub mod GroupLemmas
pub mod PieceLemmas
pub mod WalkLemmas
pub mod RingLemmas
pub mod GeojsonLemmas
pub mod SvgLemmas
