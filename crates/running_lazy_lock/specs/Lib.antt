pub mod Given
pub mod LazyShown
