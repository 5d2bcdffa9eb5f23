-- Laws of reports of solved instances, which any crate may cite.
pub mod Headlines
pub mod Commits
pub mod OneReport
