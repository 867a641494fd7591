pub mod Listed
pub mod Items
