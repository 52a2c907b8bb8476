pub mod Workshop
pub mod Withdrawals
