pub mod WordwiseLaws
pub mod SearchLaws
pub mod EntryLaws
pub mod ListingLaws
pub mod PutLaws
