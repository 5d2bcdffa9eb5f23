pub mod Takers
pub mod Placed
