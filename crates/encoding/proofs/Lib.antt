mod Taken
pub mod Sizes
pub mod Formats
pub mod Rows
pub mod Writings
pub mod Lying
pub mod ReadingBack
pub mod Listed
pub mod Filling
pub mod Parting
pub mod Ordering
pub mod Widening
mod Walking
pub mod Sames
