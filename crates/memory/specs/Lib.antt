pub mod Spans
pub mod Sums
pub mod Tables
pub mod Packing
