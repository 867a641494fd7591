mod EqualityLemmas
mod FitLaws
mod IssuerLemmas
pub mod MadeLaws
pub mod OwnLaws
mod SortLemmas
