pub mod laws
mod Firsts
mod Placed
mod Apart
