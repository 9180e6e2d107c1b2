pub mod Names
pub mod RwJoins
pub mod RwTries
