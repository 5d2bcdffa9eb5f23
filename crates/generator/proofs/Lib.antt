pub mod Positions
pub mod Accepting
