mod BitsLemmas
mod OpenLemmas
mod EqualityLemmas
pub mod ShownLaws
pub mod RefusalLaws
