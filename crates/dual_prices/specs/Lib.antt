pub mod Raised
pub mod Rooms
pub mod Floors
pub mod Kept
pub mod Tables
