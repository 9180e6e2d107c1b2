pub mod Names
pub mod Closures
pub mod ClosureSteps
pub mod Laws
