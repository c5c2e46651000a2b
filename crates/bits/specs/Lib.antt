pub mod BitSets
pub mod BitSetLaws
pub mod ScanLaws
