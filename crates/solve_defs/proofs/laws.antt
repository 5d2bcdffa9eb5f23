pub mod Histories
pub mod Bests
pub mod Plain
