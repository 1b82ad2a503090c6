-- How a replay counts, and what it compares.
pub mod Counts
pub mod Walk
pub mod Lent
