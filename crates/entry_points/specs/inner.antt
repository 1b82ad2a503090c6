-- What private contracts speak of. Nothing of it need be believed: the public promises are proved from it.
pub mod Outcomes
pub mod Reading
