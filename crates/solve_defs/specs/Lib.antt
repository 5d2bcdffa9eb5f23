pub mod Solved
pub mod PlainRun
pub mod Laws
