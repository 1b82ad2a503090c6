-- Laws of the definitions of specs/, for the proofs of the functions.
pub mod Decimals
pub mod Zeros
