pub mod Emptiness
pub mod Truth
pub mod Firsts
pub mod Reporting
mod OfMap
mod Faced
mod Decisions
