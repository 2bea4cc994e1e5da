pub mod Kept
pub mod Comparing
pub mod Promised
pub mod Inside
