pub mod Reading
pub mod Contents
pub mod Promised
pub mod Held
