pub mod Reports
pub mod Headline
pub mod Texts
pub mod Same
