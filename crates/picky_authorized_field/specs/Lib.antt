pub mod Numbered
pub mod Refusal
pub mod State
pub mod Key
pub mod Layout
pub mod Call
