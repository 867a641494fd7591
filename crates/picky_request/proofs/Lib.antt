mod CutLaws
pub mod NameLaws
mod EqualityLemmas
pub mod LineLaws
