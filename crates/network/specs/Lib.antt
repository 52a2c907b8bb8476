pub mod Networks
pub mod Checks
