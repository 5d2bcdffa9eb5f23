pub mod Summaries
pub mod Relation
pub mod Verdicts
pub mod Laws
