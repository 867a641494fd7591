pub mod ToyLemmas
pub mod RangeLemmas
