pub mod Names
pub mod StoryLaws
pub mod SeveralLaws
