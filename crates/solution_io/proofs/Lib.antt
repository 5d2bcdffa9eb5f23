pub mod Pairs
pub mod SolutionText
pub mod Exact
