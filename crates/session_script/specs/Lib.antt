pub mod Reading
pub mod Sessions
pub mod Lines
pub mod Playing
pub mod Told
