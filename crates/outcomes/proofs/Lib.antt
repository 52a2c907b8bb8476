pub mod Sequences
pub mod Onwards
pub mod Tries
pub mod OnePut
pub mod Ends
pub mod Cells
