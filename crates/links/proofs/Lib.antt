pub mod ShiftLaws
pub mod LookupLaws
