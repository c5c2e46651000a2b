pub mod TotalLaws
pub mod RingLaws
pub mod SheetLaws
pub mod StepLaws
pub mod ReplayLaws
pub mod ClosingLaws
pub mod WithoutLaws
pub mod KeepLaws
