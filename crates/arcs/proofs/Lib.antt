pub mod CrossingLaws
pub mod IndexingLaws
