pub mod Tree
pub mod Group
