pub mod First
pub mod Geometry
pub mod Accepted
pub mod Making
pub mod Hull
pub mod Walks
pub mod Boxes
pub mod Guides
