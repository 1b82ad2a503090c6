-- Definitions of plain mathematics that contracts and claims of other crates cite. Nothing here is from the standard or from docs/SCOPE.md.
pub mod Tabulate
pub mod All
