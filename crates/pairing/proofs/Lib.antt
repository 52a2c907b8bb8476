pub mod Melding
pub mod Turns
pub mod Taking
