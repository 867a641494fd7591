pub mod StateLemmas
pub mod JudgedLaws
pub mod IssuedLemmas
pub mod ApplyLemmas
pub mod CertificateLineLemmas
pub mod EntryLaws
mod SidesLemmas
mod EntryLineLemmas
mod IdLemmas
mod FollowLemmas
mod LedgerTextLemmas
mod WrittenLemmas
pub mod LedgerTextLaws
pub mod BadLineLaws
pub mod OutputLaws
pub mod AfterLaws
pub mod RequestLemmas
pub mod RunLemmas
pub mod OwnLaws
mod EqualityLemmas
