pub mod Search
pub mod Check
pub mod Spared
pub mod Marks
pub mod Laid
