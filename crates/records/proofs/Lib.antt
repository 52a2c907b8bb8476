pub mod Passing
pub mod Positions
pub mod Counts
pub mod Queues
pub mod Numbers
pub mod Totals
pub mod Lists
pub mod Standing
