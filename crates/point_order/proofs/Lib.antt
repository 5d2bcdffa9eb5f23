pub mod laws
mod Placed
