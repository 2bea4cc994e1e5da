pub mod Strings
pub mod Chain
pub mod Outcomes
