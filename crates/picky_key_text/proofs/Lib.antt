pub mod FormLemmas
pub mod EqualityLaws
pub mod CountedLemmas
pub mod PpkLemmas
pub mod FileRefusalLemmas
pub mod RefusalLaws
pub mod Utf8Laws
pub mod ReadingLaws
pub mod UnaskedLaws
pub mod KeptLaws
mod SubjectLemmas
mod FileKeyLemmas
mod EnvelopeLemmas
