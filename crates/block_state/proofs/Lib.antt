pub mod Clean
pub mod Outcomes
