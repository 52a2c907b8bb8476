pub mod Numbers
pub mod Shapes
pub mod Templates
pub mod Reading
pub mod Telling
pub mod Ranges
