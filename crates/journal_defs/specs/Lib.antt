pub mod Edits
pub mod Journal
pub mod Table
pub mod Agree
pub mod Neighbours
pub mod Turns
pub mod Weave
