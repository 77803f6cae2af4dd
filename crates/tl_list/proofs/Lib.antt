mod Lists
mod Lacked
mod Sounding
mod Told
mod Gathering
mod Taking
mod Passing
mod NotedLemmas
mod MayTaking
mod Assembling
pub mod Listed
mod OneOrder
mod Same
