pub mod Names
pub mod SemaphoreParties
pub mod SemaphoreSteps
pub mod SemaphoreShown
pub mod Semaphore
