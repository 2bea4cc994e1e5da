pub mod Value
pub mod Calls
pub mod Structs
