pub mod Pairing
pub mod Lawful
