-- What proofs of other crates may cite of this crate.
pub mod Region
pub mod Showing
pub mod Once
pub mod Legal
