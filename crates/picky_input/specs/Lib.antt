pub mod Input
pub mod Extent
pub mod SourceText
