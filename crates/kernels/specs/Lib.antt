pub mod Blocks
pub mod Trees
pub mod Reading
pub mod Filling
pub mod Operands
