pub mod Answers
pub mod Opening
pub mod Genuine
pub mod Nonces
pub mod Inside
pub mod Promised
