-- What the contracts and the laws of gaps cite.
pub mod Beside
pub mod Gaps
pub mod Telling
pub mod Keeping
pub mod FaceFaults
