pub mod Walking
pub mod Views
pub mod Copying
pub mod Broadcasting
pub mod Slicing
pub mod Laws
pub mod Shifting
