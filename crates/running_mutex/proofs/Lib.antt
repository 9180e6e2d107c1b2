pub mod Names
pub mod MutexKeeps
pub mod MutexPlays
pub mod MutexTries
