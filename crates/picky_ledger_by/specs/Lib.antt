pub mod Lacked
pub mod Applied
pub mod inner
