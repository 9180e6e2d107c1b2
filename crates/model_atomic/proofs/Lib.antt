pub mod Names
pub mod Places
pub mod Laws
pub mod Apart
pub mod NextSteps
pub mod Data
pub mod Acts
