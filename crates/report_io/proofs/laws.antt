-- Laws of reports, which any crate may cite.
pub mod PartLimits
pub mod PartsBack
pub mod PartsPlain
pub mod PartsWithin
pub mod LaterBack
pub mod OneText
pub mod Within
pub mod Once
pub mod ReportBack
