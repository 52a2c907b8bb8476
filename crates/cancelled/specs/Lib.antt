pub mod Cancelled
pub mod Examples
