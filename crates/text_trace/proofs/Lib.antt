pub mod Names
pub mod EachLaws
pub mod QuietLaws
pub mod CellLaws
pub mod RowLaws
pub mod TraceLaws
pub mod SeveralLaws
pub mod OwnLaws
