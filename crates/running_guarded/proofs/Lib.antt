pub mod Names
pub mod GuardedSights
pub mod SameGuard
pub mod Acting
