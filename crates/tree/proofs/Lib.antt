pub mod OperationLaws
pub mod AnswerLaws
pub mod CopyLaws
