-- Facts about the definitions of specs/, for their reader, for the proofs of the calls and for the crates above.
pub mod Begun
pub mod Rectangles
pub mod Cells
pub mod Checks
pub mod Directions
pub mod Stored
pub mod Places
pub mod Placed
