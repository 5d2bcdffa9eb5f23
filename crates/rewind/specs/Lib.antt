pub mod Undone
pub mod Kept
pub mod Marks
