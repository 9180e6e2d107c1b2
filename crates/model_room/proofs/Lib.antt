pub mod Names
pub mod Runs
pub mod Stands
pub mod Strides
pub mod Merged
