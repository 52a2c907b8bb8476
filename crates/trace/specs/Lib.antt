pub mod Puts
pub mod Records
pub mod Lines
