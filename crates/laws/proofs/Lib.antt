-- Laws for the proofs of other crates: tests, signed numbers as linear facts, tabulated lists and the loops that write them,
-- parts of slices, related lists.
pub mod Tests
pub mod Signed
pub mod Bounded
pub mod Bits
pub mod Tabulated
pub mod Filled
pub mod Rows
pub mod Parts
pub mod Related
