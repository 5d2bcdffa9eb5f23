mod Moves
mod Rests
mod Lists
pub mod Laws
