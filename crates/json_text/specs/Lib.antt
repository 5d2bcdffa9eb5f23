pub mod Passes
pub mod Refusal
