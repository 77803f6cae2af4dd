-- What the contracts of hints cite.
pub mod Shown
pub mod Advice
pub mod Hints
pub mod Objects
pub mod Telling
pub mod Again
pub mod Placed
pub mod Fronts
pub mod Placing
pub mod Unread
