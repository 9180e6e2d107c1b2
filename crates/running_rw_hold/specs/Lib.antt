pub mod Names
pub mod RwReading
pub mod RwShown
pub mod Held
pub mod HeldKeeps
pub mod RwReader
