pub mod Listing
pub mod Layouts
pub mod Parting
pub mod Joining
pub mod Adding
