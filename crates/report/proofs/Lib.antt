pub mod ReportLaws
pub mod ReportCases
