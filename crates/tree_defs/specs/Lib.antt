pub mod Leaves
pub mod Trees
pub mod Walks
pub mod Conditions
pub mod Plain
pub mod Full
pub mod Laws
pub mod Proving
