-- What proofs of other crates may cite of this crate.
pub mod Opposite
pub mod Area
pub mod Line
pub mod Along
pub mod Pairs
pub mod Quadruple
pub mod Border
pub mod Order
pub mod Crossings
