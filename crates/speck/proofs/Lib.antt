pub mod Parts
pub mod Injective
pub mod Outcomes
