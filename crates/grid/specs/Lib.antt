pub mod Closings
pub mod Grid
pub mod GridLaws
pub mod Steps
