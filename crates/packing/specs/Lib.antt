pub mod Image
pub mod Reading
pub mod Senses
pub mod SenseLaws
