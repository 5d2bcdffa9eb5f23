mod Settled
mod Tried
mod Entry
pub mod Laws
