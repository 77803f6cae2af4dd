-- What verdicts say.
pub mod Sound
pub mod Valid
pub mod Truth
pub mod Verdicts
pub mod Texts
pub mod Rows
pub mod Messages
pub mod Records
pub mod Deciding
pub mod Stops
