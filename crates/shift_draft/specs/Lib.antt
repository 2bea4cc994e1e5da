pub mod Put
pub mod Files
pub mod Answers
pub mod Promised
