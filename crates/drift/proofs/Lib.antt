-- The drift figure, and facts beside it.
pub mod Lists
pub mod Keeps
pub mod Bounds
pub mod Steps
pub mod Runs
pub mod Table
