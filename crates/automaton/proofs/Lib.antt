pub mod SetLaws
pub mod TraceLaws
pub mod ReadLaws
pub mod AutomatonLaws
pub mod LevelLaws
pub mod LowestLaws
pub mod WalkLaws
pub mod ShortChainLaws
