pub mod Part
pub mod Format
pub mod Inside
