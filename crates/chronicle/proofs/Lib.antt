mod Moves
mod Told
mod Dealt
pub mod Laws
