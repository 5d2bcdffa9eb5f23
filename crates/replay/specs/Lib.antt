pub mod Replayed
pub mod Applied
pub mod Swept
pub mod Tried
pub mod Machine
pub mod Room
pub mod Followed
pub mod Edited
