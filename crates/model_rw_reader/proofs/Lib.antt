pub mod Names
pub mod ReaderLocks
pub mod Laws
pub mod NextSteps
pub mod AnswerLaws
