pub mod Names
pub mod OnceKeeps
pub mod OncePlays
pub mod OnceAnswers
