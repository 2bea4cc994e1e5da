pub mod Keys
pub mod Rounds
pub mod Injective
