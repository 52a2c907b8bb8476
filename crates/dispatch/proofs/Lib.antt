pub mod Sorting
pub mod Admitting
pub mod Serving
pub mod UnusedStores
