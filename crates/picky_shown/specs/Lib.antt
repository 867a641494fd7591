pub mod Bits
pub mod Shown
pub mod inner
