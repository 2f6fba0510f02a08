pub mod Reports
pub mod FeedDays
pub mod Plans
pub mod LateFaults
pub mod OutcomeTexts
pub mod OutcomeJson
