pub mod SortedLists
pub mod Meaning
pub mod Refusals
pub mod Calls
pub mod Promises
pub mod Laws
pub mod Examples
