pub mod Names
pub mod ValueKeeps
pub mod ValueSights
pub mod SpinPlays
pub mod SameGuard
