pub mod Lending
pub mod Outcomes
