pub mod EntryLemmas
pub mod ReplyLemmas
pub mod AskedLemmas
pub mod StepLemmas
pub mod StepLaws
pub mod FailureLaws
pub mod SigningLaws
pub mod QuestionLaws
