pub mod Arcs
pub mod ArcLaws
pub mod Index
pub mod IndexLaws
pub mod SpanLaws
