-- The worked cases of docs/SCOPE.md, of all layers.
pub mod Cases
