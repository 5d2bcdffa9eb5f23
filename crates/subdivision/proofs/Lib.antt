pub mod laws
pub mod Rows
pub mod Members
pub mod Growing
pub mod Collected
pub mod Tidy
