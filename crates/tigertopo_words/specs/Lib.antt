-- What the contracts of commands cite.
pub mod Commands
pub mod Arguments
pub mod Requests
pub mod Asked
pub mod CommandLine
pub mod Escapes
pub mod Spelling
pub mod Keeping
pub mod Names
pub mod Shell
pub mod Json
pub mod Points
