pub mod Reporting
pub mod Promised
pub mod Inside
