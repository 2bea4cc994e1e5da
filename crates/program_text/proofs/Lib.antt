mod Pushed
pub mod Outcomes
