pub mod Order
pub mod Placed
