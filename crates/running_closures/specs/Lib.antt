pub mod Crowds
pub mod Steps
