-- What the contracts of the system's files cite.
pub mod Calls
pub mod Looking
pub mod Noting
