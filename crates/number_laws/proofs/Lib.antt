pub mod Naturals
pub mod Products
pub mod Signs
pub mod Crosses
pub mod Sums
pub mod ListSums
pub mod Loops
pub mod Tests
