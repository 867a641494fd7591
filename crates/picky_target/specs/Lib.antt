pub mod Output
pub mod Drafts
pub mod Texts
pub mod Carried
pub mod Judged
pub mod Written
pub mod ReadBack
pub mod inner
