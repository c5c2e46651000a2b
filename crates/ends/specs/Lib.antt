pub mod Ends
pub mod Asking
pub mod Listing
