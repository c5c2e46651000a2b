pub mod Basics
pub mod Causes
pub mod CauseOrders
pub mod Book
pub mod Sheets
pub mod Orders
