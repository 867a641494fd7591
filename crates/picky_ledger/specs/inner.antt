pub mod Comes
pub mod Ids
pub mod Shown
