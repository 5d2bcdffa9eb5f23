pub mod Working
pub mod Handing
pub mod Looking
pub mod Turning
