pub mod Order
pub mod Elements
