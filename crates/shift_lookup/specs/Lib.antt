pub mod Answers
pub mod Lookup
pub mod Halving
pub mod Entry
pub mod Inside
pub mod Promised
