pub mod Promised
pub mod Outcomes
