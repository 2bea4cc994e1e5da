pub mod Words
pub mod Bytes
pub mod Xors
pub mod Blocks
pub mod Outcome
