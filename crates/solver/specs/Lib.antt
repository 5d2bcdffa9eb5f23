pub mod Solving
pub mod Working
