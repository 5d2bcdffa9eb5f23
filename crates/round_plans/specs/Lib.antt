pub mod Choices
pub mod Listed
pub mod Found
