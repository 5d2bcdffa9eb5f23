-- What proofs of other crates may cite of this crate.
pub mod Has
pub mod Joined
pub mod Sets
pub mod Net
pub mod Flips
pub mod Needs
pub mod Crossings
pub mod PairOrder
pub mod Sides
