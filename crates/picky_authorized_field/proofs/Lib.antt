pub mod OrderLaws
pub mod SaidLemmas
pub mod KeyLineLaws
