pub mod Puts
pub mod Rewritten
pub mod Pieces
pub mod Answers
pub mod Back
pub mod Takes
pub mod Altered
pub mod RowLoop
