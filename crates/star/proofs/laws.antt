pub mod Turning
pub mod Directions
pub mod Marks
pub mod StarOf
pub mod Needs
pub mod Apexes
pub mod Between
