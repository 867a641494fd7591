pub mod LineOwn
pub mod SourceLine
