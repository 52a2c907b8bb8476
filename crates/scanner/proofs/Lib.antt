pub mod Cutting
pub mod Splitting
pub mod Digits
pub mod Filling
pub mod Scanning
