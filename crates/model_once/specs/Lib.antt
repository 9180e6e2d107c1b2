pub mod Names
pub mod Table
pub mod Closures
pub mod Law
