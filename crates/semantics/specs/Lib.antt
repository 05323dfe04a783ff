-- The meaning, lowest first: shapes, what an operation does to an array, expressions, programs.
pub mod Shapes
pub mod Broadcast
pub mod Parts
pub mod Slices
pub mod Orders
pub mod Arrays
pub mod Values
pub mod Programs
pub mod PlaceLaws
pub mod PartLaws
pub mod OrderLaws
pub mod ValueLaws
pub mod RunLaws
pub mod Examples
