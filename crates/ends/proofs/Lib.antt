pub mod EndsLaws
pub mod MadeLaws
pub mod ListLaws
pub mod AskLaws
