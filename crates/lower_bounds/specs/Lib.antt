pub mod Border
pub mod Bounds
pub mod Found
pub mod Prices
