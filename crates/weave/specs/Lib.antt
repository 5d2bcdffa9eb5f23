pub mod Answers
pub mod Woven
pub mod Law
pub mod Owned
