pub mod Joules
pub mod Pieces
pub mod RefusalText
pub mod VerdictText
pub mod EdgeText
pub mod ReportText
pub mod Statuses
