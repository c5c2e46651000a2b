pub mod Levels
pub mod Frontiers
pub mod Steps
pub mod Reaching
pub mod Room
