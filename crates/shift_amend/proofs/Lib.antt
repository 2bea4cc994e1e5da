pub mod Holding
pub mod Parts
pub mod Told
pub mod Promised
pub mod Outcomes
