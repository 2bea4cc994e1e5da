pub mod Outcomes
mod Sizes
