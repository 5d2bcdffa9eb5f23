pub mod Laws
pub mod Scans
pub mod Pieces
pub mod Values
