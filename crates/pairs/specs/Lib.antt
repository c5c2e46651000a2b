pub mod Evaluation
pub mod EvaluationLaws
pub mod RoomLaws
pub mod Steps
