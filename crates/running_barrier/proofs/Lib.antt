pub mod Names
pub mod BarrierKeeps
pub mod BarrierPlays
