-- What the contracts of listings cite.
pub mod Texts
pub mod Keys
pub mod Noted
