pub mod Listed
pub mod Texts
pub mod Merging
pub mod Pieces
