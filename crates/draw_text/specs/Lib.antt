pub mod Parts
pub mod Picture
pub mod Run
