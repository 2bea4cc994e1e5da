pub mod Masks
pub mod Column
pub mod Rounds
pub mod Outcomes
