pub mod Located
pub mod Amended
pub mod Fields
