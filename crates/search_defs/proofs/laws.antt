pub mod Trials
pub mod Scaled
pub mod Elsewhere
pub mod Once
pub mod Words
