pub mod Places
pub mod Placed
pub mod Parts
pub mod Exact
pub mod Answers
pub mod CostItems
pub mod InstanceText
