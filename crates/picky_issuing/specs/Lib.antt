pub mod Steps
pub mod OptionWord
pub mod Value
pub mod NamedPayload
pub mod Options
pub mod Parts
