pub mod Apexes
pub mod Ends
