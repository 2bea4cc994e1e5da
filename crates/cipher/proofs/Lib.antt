pub mod Suites
pub mod Paths
pub mod Lawful
pub mod Outcomes
