-- Runs that meet the drift figure, that it cannot be made smaller, and single steps.
pub mod Runs
pub mod Tight
pub mod Steps
