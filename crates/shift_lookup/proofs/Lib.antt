pub mod Lookups
pub mod Places
pub mod Halves
pub mod Finding
pub mod Numbered
pub mod Outcomes
