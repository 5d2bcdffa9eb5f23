pub mod Cycle
pub mod Walk
pub mod Chain
pub mod Inner
pub mod Marks
