pub mod laws
mod Examples
mod Steps
