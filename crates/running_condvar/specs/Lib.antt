pub mod Names
pub mod Cond
pub mod CondParties
pub mod CondShown
pub mod Often
