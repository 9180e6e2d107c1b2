pub mod Names
pub mod SemaphoreKeeps
pub mod SemaphorePlays
pub mod SemaphoreTakes
mod Asked
