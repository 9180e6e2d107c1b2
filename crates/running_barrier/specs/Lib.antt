pub mod Names
pub mod BarrierParties
pub mod BarrierSteps
pub mod BarrierShown
pub mod Barrier
