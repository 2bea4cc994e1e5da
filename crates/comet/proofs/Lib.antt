pub mod Left
pub mod Outcomes
pub mod Counts
mod Tags
