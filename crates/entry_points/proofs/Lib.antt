-- Facts about the definitions of specs/, for their reader and for the proofs of the entry points.
pub mod Words
pub mod ReadBack
pub mod Updates
pub mod Reading
pub mod References
