pub mod Going
pub mod Calm
pub mod Running
pub mod Turns
pub mod Lines
