pub mod RequestTables
pub mod Cases
