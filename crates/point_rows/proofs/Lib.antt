pub mod laws
mod Taking
mod Links
mod Chains
mod Kept
