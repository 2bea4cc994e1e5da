pub mod Refuse
pub mod Numbers
pub mod Outcomes
