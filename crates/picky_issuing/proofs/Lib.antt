mod EqualityLemmas
pub mod NumberLaws
pub mod PartsLemmas
pub mod PartsLaws
pub mod PartsText
mod PayloadLemmas
mod WordLemmas
