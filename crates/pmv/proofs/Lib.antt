-- Facts about the definitions of specs/, for their reader, for the proofs of the calls and for the crates above.
pub mod Numbers
pub mod Deltas
pub mod Ranges
pub mod Rows
pub mod Lists
pub mod Facts
pub mod Chrominance
