-- What proofs of other crates may cite of this crate.
pub mod Parts
pub mod Leaves
pub mod Bound
pub mod Values
pub mod Walks
pub mod Faults
pub mod Full
pub mod AllMet
pub mod Raised
pub mod Overs
pub mod OneNode
