pub mod StepLaws
pub mod SymbolLaws
pub mod JoinLaws
pub mod AnswerLaws
