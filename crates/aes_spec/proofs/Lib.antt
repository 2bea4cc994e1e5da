pub mod Field
pub mod Inverse
pub mod Sbox
pub mod Steps
pub mod Schedule
pub mod Injective
