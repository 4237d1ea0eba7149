pub mod Rows
pub mod PutLaws
pub mod RowLaws
