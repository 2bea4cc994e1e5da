pub mod Table
pub mod Sums
pub mod Turns
pub mod Outcomes
pub mod Engines
