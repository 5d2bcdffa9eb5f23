pub mod Raises
pub mod Tightened
pub mod Floored
pub mod Limits
pub mod Once
