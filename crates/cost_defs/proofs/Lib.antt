pub mod Laws
mod Search
