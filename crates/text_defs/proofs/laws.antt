-- Laws of texts, which any crate may cite.
pub mod Pieces
pub mod Rewriting
pub mod Levels
pub mod Reading
pub mod IsPlain
pub mod Lists
pub mod Strings
pub mod Whole
pub mod PiecesWritten
pub mod ReadBack
pub mod PlainTexts
pub mod Lines
pub mod Costs
pub mod Instances
pub mod Solutions
