pub mod Hold
pub mod Outcomes
