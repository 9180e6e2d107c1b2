pub mod Names
pub mod Register
pub mod Table
pub mod Steps
pub mod Law
