pub mod QuestionLemmas
pub mod VerdictLemmas
pub mod DecisionLemmas
