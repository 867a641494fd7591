mod SignatureLemmas
mod SignedLemmas
mod NumberLaws
pub mod FieldLaws
pub mod WrittenLaws
pub mod IssuerLaws
