pub mod SupportLaws
pub mod SupportCases
pub mod MadeLaws
mod LoopLaws
mod AnswerLaws
