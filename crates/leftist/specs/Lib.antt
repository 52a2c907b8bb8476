pub mod Leftist
pub mod Lawful
