pub mod TableLaws
pub mod JudgeLaws
