pub mod Parts
pub mod Reading
pub mod Texts
pub mod Report
pub mod Limits
pub mod Answers
