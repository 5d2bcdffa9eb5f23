pub mod Lower
pub mod Turned
pub mod Trails
pub mod Ordered
pub mod Growing
pub mod Halves
pub mod Cycles
pub mod Marks
