pub mod Names
pub mod LockSteps
pub mod Laws
