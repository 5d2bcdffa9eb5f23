pub mod laws
mod Growing
mod Corners
