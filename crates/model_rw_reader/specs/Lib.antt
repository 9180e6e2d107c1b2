pub mod Names
pub mod Table
pub mod Law
