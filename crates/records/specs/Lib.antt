pub mod Cells
pub mod Whole
