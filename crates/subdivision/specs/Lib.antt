pub mod Rising
pub mod Every
pub mod Layout
pub mod Joining
pub mod Listing
