pub mod Binomial
pub mod Lawful
