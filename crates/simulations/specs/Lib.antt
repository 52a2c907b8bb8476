pub mod Conditions
pub mod Writes
pub mod Calls
pub mod Drafts
