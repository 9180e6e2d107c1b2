pub mod Names
pub mod WatchLaws
pub mod Objects
pub mod Turns
pub mod Stands
pub mod StrideLaws
