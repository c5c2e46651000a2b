pub mod WritingLaws
pub mod GatherLaws
pub mod ReadingLaws
pub mod CheckLaws
pub mod LayoutLaws
pub mod AnswerLaws
