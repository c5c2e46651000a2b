pub mod Letters
pub mod LetterLaws
pub mod Code
pub mod Running
pub mod CodeLaws
pub mod Reads
pub mod ReadsLaws
pub mod Progress
