pub mod Names
pub mod Once
pub mod OnceParties
pub mod OnceShown
pub mod OnceLaws
