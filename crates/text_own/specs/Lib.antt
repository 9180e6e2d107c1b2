pub mod Names
pub mod Row
pub mod Table
pub mod Question
pub mod Judge
pub mod Answer
