pub mod Front
pub mod Going
pub mod Count
pub mod Outcomes
