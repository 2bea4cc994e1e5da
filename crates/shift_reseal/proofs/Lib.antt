pub mod Retabled
pub mod Pieces
pub mod Answers
pub mod Resealed
pub mod Promised
pub mod Lending
pub mod Outcomes
