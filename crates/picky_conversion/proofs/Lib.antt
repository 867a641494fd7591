pub mod DraftedLaws
pub mod ReadBackLemmas
mod SignedLemmas
pub mod JudgedLemmas
pub mod AnswerLemmas
pub mod ConvertLemmas
pub mod CertifyLemmas
pub mod IssueLemmas
pub mod IssuedLemmas
pub mod KeptLemmas
pub mod ToLemmas
pub mod LawLemmas
