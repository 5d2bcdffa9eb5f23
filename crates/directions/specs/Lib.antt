pub mod Key
pub mod Opposites
pub mod Fans
pub mod Rounds
pub mod Bits
pub mod Listing
