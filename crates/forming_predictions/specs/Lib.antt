-- What must be believed of forming_predictions: ISO/IEC 13818-2, 7.6.4, with the clamping and refusals 14 and 18 of docs/SCOPE.md; and, of its
-- code, what `Undivided` says.
-- `inner` is not among it: it has what private contracts alone speak of.
pub mod Splitting
pub mod Undivided
pub mod Lines
pub mod Parities
pub mod Means
pub mod Forming
pub mod Refusals
pub mod Planes
pub mod inner
