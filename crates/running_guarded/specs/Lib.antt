pub mod Names
pub mod GuardedRule
pub mod GuardedWord
pub mod GuardedSteps
pub mod GuardedShown
pub mod Acting
