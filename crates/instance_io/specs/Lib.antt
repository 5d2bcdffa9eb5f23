pub mod Refusal
pub mod Told
pub mod Reading
pub mod Writing
