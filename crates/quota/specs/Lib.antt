pub mod Limiting
pub mod Formed
