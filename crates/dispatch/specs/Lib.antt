pub mod Service
pub mod Dispatching
