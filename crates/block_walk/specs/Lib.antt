pub mod Progress
pub mod Counted
