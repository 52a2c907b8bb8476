pub mod Lines
pub mod Classifying
pub mod Limiting
