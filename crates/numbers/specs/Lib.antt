-- Numbers as bit patterns, lowest first: each operation, the record of them all, and what holds of them.
pub mod Binary64
pub mod Named
pub mod Operations
pub mod Patterns
pub mod Indices
pub mod Standing
pub mod Plain
