pub mod Named
pub mod ReportTexts
pub mod Told
pub mod FirstDay
pub mod OutcomeLines
