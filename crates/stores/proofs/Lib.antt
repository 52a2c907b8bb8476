pub mod Merging
pub mod Inserting
pub mod Removing
pub mod Counting
pub mod Answering
pub mod Unused
