pub mod Base64
pub mod Words
pub mod Rows
pub mod Behind
pub mod Lines
pub mod Quote
pub mod Appended
pub mod inner
