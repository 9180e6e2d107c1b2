pub mod Failed
pub mod Trace
