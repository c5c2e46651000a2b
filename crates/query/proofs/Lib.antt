pub mod AskingLaws
pub mod EvaluationLaws
pub mod LetterLaws
pub mod WorkLaws
pub mod UsedLaws
