pub mod Comment
pub mod inner
