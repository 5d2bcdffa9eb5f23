-- What proofs of other crates may cite of this crate.
pub mod Members
pub mod Journal
pub mod Flips
pub mod Edits
pub mod Start
pub mod Table
pub mod Later
pub mod Turned
pub mod Same
pub mod Follow
pub mod Woven
pub mod Turns
pub mod Back
pub mod Mutual
pub mod Undone
