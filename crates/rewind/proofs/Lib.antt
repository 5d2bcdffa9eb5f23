pub mod laws
mod Keys
mod Marked
