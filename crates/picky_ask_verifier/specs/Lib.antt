pub mod Question
pub mod Verdicts
