-- Facts about the definitions of specs/, for their reader, for the proofs of the calls and for the crates above.
pub mod Splitting
pub mod Lines
pub mod Parities
pub mod Views
pub mod ViewRows
pub mod RowMeans
pub mod Pairs
pub mod Blocks
pub mod Eights
pub mod Forming
pub mod Refusals
pub mod Undivided
pub mod Reading
