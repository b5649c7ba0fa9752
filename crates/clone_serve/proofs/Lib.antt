pub mod AnswerLemmas
pub mod CommandLemmas
pub mod StepLemmas
pub mod ServedLemmas
