pub mod Automata
pub mod Traces
pub mod Masks
pub mod Searches
