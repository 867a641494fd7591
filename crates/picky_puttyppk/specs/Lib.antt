pub mod PuttyText
pub mod Run
pub mod inner
