pub mod Tokens
pub mod Lines
pub mod Numerals
pub mod Numbers
pub mod Templates
