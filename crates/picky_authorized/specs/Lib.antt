pub mod Quotes
pub mod OptionText
pub mod Options
pub mod KnownOptions
pub mod Lines
pub mod Entries
