pub mod Inner
pub mod Rooms
pub mod InPlace
