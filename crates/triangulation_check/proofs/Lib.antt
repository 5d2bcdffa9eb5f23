pub mod Enclosed
pub mod Copied
pub mod Runs
pub mod Inside
pub mod Shown
