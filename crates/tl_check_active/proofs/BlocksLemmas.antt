pub mod Answered
pub mod Numbers
