pub mod Generations
pub mod Inner
pub mod Generating
pub mod GenerationsLaws
pub mod LoopLaws
pub mod GenerationsCases
pub mod MadeLaws
