pub mod FrameLemmas
pub mod RunLaws
pub mod ServedLemmas
pub mod EndingLaws
pub mod TurnLemmas
