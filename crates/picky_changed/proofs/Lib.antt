mod UnaskedLemmas
pub mod CommentLaws
