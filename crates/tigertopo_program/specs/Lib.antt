-- What the contracts of the program cite.
pub mod Print
pub mod Texts
pub mod Places
pub mod Records
pub mod Answers
pub mod Telling
pub mod Rooms
pub mod Commands
pub mod Building
pub mod Lists
pub mod Exports
pub mod Borders
pub mod Draw
pub mod Program
pub mod Hinting
pub mod Running
pub mod Starting
