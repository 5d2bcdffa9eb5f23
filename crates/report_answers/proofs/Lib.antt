pub mod Laws
mod Rewinds
