pub mod Pushed
pub mod Names
pub mod Turning
pub mod Machines
pub mod Judging
pub mod Refusals
pub mod Reading
