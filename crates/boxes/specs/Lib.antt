pub mod Bounds
pub mod Corners
