pub mod Done
pub mod Outcomes
