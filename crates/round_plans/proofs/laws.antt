-- What proofs of other crates may cite of this crate.
pub mod Firsts
