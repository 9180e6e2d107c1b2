pub mod Names
pub mod RwReaderParties
pub mod RwReaderSteps
pub mod RwReaderShown
