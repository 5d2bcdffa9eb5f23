pub mod Reading
pub mod Scripts
pub mod Lines
pub mod Playing
pub mod Told
