pub mod Names
pub mod PictureLaws
