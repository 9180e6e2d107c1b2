pub mod Table
pub mod Law
