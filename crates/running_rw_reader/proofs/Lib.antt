pub mod Names
pub mod RwReaderKeeps
pub mod RwReaderTries
pub mod RwReaderPlays
