pub mod laws
pub mod Wide
pub mod Outermost
pub mod Rising
pub mod Enclosed
pub mod Boxed
pub mod Furthest
