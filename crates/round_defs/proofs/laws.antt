-- What proofs of other crates may cite of this crate.
pub mod Looks
pub mod Grown
pub mod Once
pub mod Fresh
pub mod Firsts
