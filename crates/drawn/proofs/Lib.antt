-- Laws of the definitions of specs/, for the proofs of the functions.
pub mod Runs
pub mod Moved
