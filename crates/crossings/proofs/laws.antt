-- What proofs of other crates may cite of this crate.
pub mod Blocks
pub mod Ends
pub mod Touching
