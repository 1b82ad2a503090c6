-- What is drawn from a seed, as the heads of the lists have it.
pub mod Draws
pub mod Fields
