pub mod Names
pub mod RwWriterKeeps
pub mod RwWriterTries
pub mod RwWriterPlays
pub mod AnswerNames
