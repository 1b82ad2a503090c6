-- What must be believed of the drift figure: docs/SCOPE.md, "The drift figure", over the definitions that the promises of prediction and
-- placing speak of.
pub mod Steps
pub mod Unrounded
pub mod Drift
