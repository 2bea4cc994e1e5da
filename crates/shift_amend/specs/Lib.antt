pub mod Source
pub mod Amending
pub mod Inside
pub mod Promised
