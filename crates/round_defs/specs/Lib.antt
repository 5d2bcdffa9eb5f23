pub mod Candidates
pub mod Rounds
pub mod Handed
pub mod Grown
