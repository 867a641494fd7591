pub mod Short
pub mod Draft
