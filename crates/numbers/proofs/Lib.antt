-- Laws that later crates cite: which operation each field of the record is, that all of them give patterns, and what an index is.
mod Values
pub mod Fields
pub mod Written
pub mod Indexed
pub mod Floated
pub mod Plainly
