pub mod Rows
pub mod Builds
