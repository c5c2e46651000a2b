pub mod Inner
pub mod Replies
