pub mod Names
pub mod Table
pub mod Permits
pub mod Law
