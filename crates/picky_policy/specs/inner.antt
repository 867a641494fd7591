pub mod Shown
pub mod Payload
pub mod Comes
