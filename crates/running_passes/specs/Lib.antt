pub mod Parts
pub mod Sights
pub mod Tallies
pub mod Views
pub mod Answers
pub mod Passes
pub mod Objects
