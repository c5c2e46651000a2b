pub mod Rows
pub mod RowSets
pub mod Steps
pub mod RowLaws
