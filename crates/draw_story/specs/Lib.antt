pub mod Story
pub mod Title
