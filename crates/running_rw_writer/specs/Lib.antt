pub mod Names
pub mod RwWriterSteps
pub mod RwWriterShown
pub mod RwWriterParties
pub mod RwWriter
