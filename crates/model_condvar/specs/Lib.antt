pub mod Names
pub mod Table
pub mod Waiters
pub mod Law
