pub mod Asking
pub mod Leaving
pub mod Evaluation
