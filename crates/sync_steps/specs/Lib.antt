pub mod Names
pub mod Objects
pub mod Runs
pub mod Machine
