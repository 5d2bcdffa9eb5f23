mod Held
mod Ends
mod Written
mod Early
mod Replanned
mod Seen
mod Stamps
mod Laid
mod Together
mod Cores
mod Told
mod Finished
mod Started
pub mod Laws
