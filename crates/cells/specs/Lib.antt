pub mod Trees
pub mod Binary
pub mod IdleCells
pub mod Forms
pub mod Lawful
pub mod Queues
