pub mod Region
pub mod Steps
pub mod Answers
pub mod Agreeing
pub mod Claiming
pub mod Blocking
