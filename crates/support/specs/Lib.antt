pub mod Support
pub mod Inner
pub mod SupportWork
