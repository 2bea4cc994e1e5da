pub mod Rungs
pub mod Outcomes
