pub mod Names
pub mod CondKeeps
pub mod CondPlays
pub mod CondCalls
pub mod Often
