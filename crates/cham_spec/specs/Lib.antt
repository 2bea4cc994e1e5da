pub mod Cham
