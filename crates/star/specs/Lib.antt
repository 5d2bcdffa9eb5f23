pub mod Turn
pub mod Stars
pub mod StarOf
pub mod Gaps
pub mod Links
pub mod Plain
