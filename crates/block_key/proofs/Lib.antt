mod Halves
mod Byte15
pub mod Outcomes
