pub mod Names
pub mod Laws
pub mod Permits
pub mod WaitSteps
