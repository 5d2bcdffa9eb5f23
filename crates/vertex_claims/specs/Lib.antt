pub mod Holding
pub mod Faults
pub mod Kept
pub mod Resting
pub mod Closing
pub mod Trial
