pub mod Times
pub mod Marks
pub mod Covering
mod Counting
pub mod ListLemmas
pub mod Holding
pub mod Forests
pub mod NodeLemmas
pub mod Sizes
pub mod Fitting
pub mod Splitting
