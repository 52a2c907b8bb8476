pub mod Texts
pub mod Capping
pub mod Examples
