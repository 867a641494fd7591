pub mod Names
pub mod Request
pub mod Builder
pub mod inner
