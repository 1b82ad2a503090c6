-- What must be believed of pmv: ISO/IEC 13818-2, 7.6.3.1, 7.6.3.3 with Tables 7-10 and 7-11, 7.6.3.4, 7.6.3.7 and 7.7.5.1, and
-- refusals 1 to 12 of docs/SCOPE.md. `inner` is not among it: it has what private contracts alone speak of.
pub mod Kinds
pub mod Refusals
pub mod Delta
pub mod Component
pub mod Predictors
pub mod Vector
pub mod Update
pub mod Chroma
pub mod inner
