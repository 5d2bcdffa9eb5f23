pub mod Fewer
pub mod Dearer
pub mod Worked
