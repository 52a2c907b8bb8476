pub mod Forests
pub mod Layouts
pub mod Parts
