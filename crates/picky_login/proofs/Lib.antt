pub mod JudgedLemmas
pub mod LoginLaws
