pub mod Indices
pub mod Prefixes
pub mod Entries
pub mod Owners
