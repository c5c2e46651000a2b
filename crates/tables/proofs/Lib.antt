pub mod RowLaws
pub mod PartLaws
pub mod UnaryLaws
pub mod SymbolLaws
pub mod BinaryLaws
pub mod RunLaws
