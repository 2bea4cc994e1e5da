pub mod Fronts
pub mod Tags
pub mod Written
pub mod Outcomes
