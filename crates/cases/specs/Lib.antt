pub mod Tables
pub mod Texts
