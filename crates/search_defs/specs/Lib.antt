pub mod Words
pub mod Priced
pub mod Best
pub mod Laws
