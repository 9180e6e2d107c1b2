pub mod Names
pub mod WalkLaws
pub mod OpenLaws
pub mod LastLaws
pub mod PlayLaws
