pub mod Asking
pub mod ByRow
pub mod Outcomes
pub mod Held
