pub mod Crossings
pub mod Segments
pub mod Trying
