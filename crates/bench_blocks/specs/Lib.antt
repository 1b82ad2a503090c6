-- What the benchmark's entry point speaks of, beside the definitions of forming_predictions.
pub mod Sources
