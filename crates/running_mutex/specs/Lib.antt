pub mod Names
pub mod MutexParties
pub mod MutexSteps
pub mod MutexShown
pub mod Mutex
