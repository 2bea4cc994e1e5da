pub mod Searching
pub mod Promised
