pub mod Fed
pub mod Causes
