pub mod Partition
pub mod Triangulation
pub mod Sweep
pub mod Ascending
pub mod Sets
pub mod Flips
