pub mod EntryLaws
pub mod MatrixLaws
