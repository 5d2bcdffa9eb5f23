pub mod Tests
pub mod Three
pub mod Counted
pub mod Duality
pub mod Counting
pub mod Values
pub mod Alone
pub mod Reweighed
