pub mod Names
pub mod Rounds
pub mod Table
pub mod Law
