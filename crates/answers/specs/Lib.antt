pub mod Answers
pub mod AnswerLaws
pub mod Written
pub mod WrittenLaws
pub mod Listing
pub mod ListingLaws
