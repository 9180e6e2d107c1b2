pub mod Names
pub mod Parts
pub mod Sums
pub mod Steps
pub mod Attempts
