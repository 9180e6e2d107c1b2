pub mod Names
pub mod AtomicKeeps
pub mod Runs
pub mod AtomicPlays
pub mod OverCalls
pub mod Additions
