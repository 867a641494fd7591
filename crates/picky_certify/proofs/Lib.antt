mod WordLemmas
mod AskedLemmas
mod SignedLemmas
mod CertifyLemmas
pub mod CertifiedLaws
