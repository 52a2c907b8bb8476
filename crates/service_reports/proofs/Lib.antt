pub mod Printing
pub mod Reporting
pub mod Determined
