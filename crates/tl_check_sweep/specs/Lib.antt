-- What the contracts of sweeps cite.
pub mod Searched
pub mod Keeping
pub mod Parts
