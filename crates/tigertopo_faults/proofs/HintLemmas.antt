pub mod HintLemmas
pub mod AgainLemmas
pub mod LineLemmas
pub mod KindLemmas
pub mod UnreadLemmas
