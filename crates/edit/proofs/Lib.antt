pub mod Unclaimed
pub mod Rising
pub mod Shown
pub mod Rows
pub mod StarSteps
pub mod TestStars
pub mod Inside
pub mod TrueEnds
