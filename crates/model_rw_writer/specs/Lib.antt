pub mod Names
pub mod Table
pub mod Marks
pub mod Debts
pub mod Law
