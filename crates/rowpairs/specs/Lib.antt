pub mod Evaluation
pub mod Labels
pub mod RelatingLaws
