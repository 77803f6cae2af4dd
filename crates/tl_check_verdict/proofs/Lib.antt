pub mod NodeCounts
pub mod Denials
pub mod OneMap
pub mod Recording
pub mod Deciding
pub mod Asked
