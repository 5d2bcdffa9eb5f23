pub mod Ground
pub mod Cells
pub mod Seats
pub mod Claimed
pub mod Resting
