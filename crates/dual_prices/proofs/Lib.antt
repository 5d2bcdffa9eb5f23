pub mod laws
mod Floors
mod Tables
mod Leasts
mod Standing
