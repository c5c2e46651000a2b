pub mod Host
pub mod Histories
pub mod Inner
pub mod Demand
pub mod Previews
pub mod Generations
pub mod Drafts
pub mod Reading
