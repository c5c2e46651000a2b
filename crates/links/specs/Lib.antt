pub mod Links
pub mod Parts
pub mod Ascending
pub mod Totals
pub mod Lookups
pub mod LinkLaws
pub mod AscendingLaws
pub mod TotalLaws
