pub mod Entries
pub mod Jobs
pub mod Refused
pub mod Tested
pub mod Changed
pub mod Units
pub mod Nonces
pub mod Outcomes
