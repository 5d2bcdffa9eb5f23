-- Laws of instances, which any crate may cite.
pub mod Readings
pub mod Written
