-- What private contracts speak of. Nothing of it need be believed: the public promises are proved from it. Nothing here is from the
-- standard or from docs/SCOPE.md.
pub mod Blocks
pub mod Areas
pub mod Planes
pub mod Placing
