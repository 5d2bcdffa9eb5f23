pub mod Bounds
pub mod Sessions
pub mod Laws
pub mod Desks
