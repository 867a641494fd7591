pub mod Values
pub mod Blocks
pub mod Choices
