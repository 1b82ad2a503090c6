-- What the text of a list means. differential/README.md has the format, which is this repository's.
pub mod Text
pub mod Numbers
pub mod ByteStrings
pub mod Places
