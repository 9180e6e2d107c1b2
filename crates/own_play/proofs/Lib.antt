pub mod MachineLaws
pub mod WalkLaws
pub mod RunLaws
