pub mod Names
pub mod Rows
pub mod Holds
pub mod OneHolder
