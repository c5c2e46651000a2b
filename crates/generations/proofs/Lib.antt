pub mod DepthLaws
pub mod LabelLaws
pub mod NumberLaws
pub mod RunLaws
pub mod AnswerLaws
