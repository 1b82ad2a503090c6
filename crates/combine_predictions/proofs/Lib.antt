-- Facts about the definitions of specs/, for their reader and for the crates above.
pub mod Rounding
pub mod Averaging
pub mod Answers
