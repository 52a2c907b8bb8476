pub mod Ranks
pub mod Melding
pub mod Taking
