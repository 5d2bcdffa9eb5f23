pub mod Laws
mod Steps
mod Made
mod Held
