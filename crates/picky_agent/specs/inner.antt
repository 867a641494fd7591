pub mod Frame
pub mod Turn
