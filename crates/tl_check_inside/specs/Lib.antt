-- What the contracts on points in maps cite.
pub mod Inside
pub mod Places
pub mod Placed
pub mod Suspects
pub mod Alone
pub mod Keeping
