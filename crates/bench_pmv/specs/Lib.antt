-- What the benchmark's entry points speak of, beside the definitions of pmv.
pub mod Inputs
