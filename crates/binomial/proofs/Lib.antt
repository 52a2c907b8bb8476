pub mod Degrees
pub mod Joining
pub mod Carrying
pub mod Adding
pub mod LeastRoot
pub mod Turning
pub mod TakingOut
pub mod Taking
