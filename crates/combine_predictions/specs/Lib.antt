-- What must be believed of combine_predictions: ISO/IEC 13818-2, 7.6.7, and refusals 18 and 19 of docs/SCOPE.md.
pub mod Rounding
pub mod Refusals
pub mod Averaging
pub mod Choosing
