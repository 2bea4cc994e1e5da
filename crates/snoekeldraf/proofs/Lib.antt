pub mod Rows
pub mod AmendedRows
pub mod Lists
pub mod Reports
pub mod Outcomes
