-- That all of the table's cases hold.
pub mod Cases
