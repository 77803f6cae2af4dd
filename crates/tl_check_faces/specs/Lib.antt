-- What the laws cite.
pub mod Facing
pub mod Clear
pub mod Truth
pub mod Lists
pub mod Located
pub mod Disagreements
pub mod Odd
pub mod Level
pub mod Faults
pub mod AllFaults
pub mod FaultTexts
pub mod Crossings
