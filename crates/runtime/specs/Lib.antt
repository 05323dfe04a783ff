pub mod Built
pub mod Faults
pub mod Planning
pub mod Showing
pub mod States
pub mod Statements
pub mod Running
pub mod Answering
