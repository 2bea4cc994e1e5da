pub mod Files
pub mod Answers
pub mod Inside
pub mod Appended
pub mod Promised
