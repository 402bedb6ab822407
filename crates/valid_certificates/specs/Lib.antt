pub mod LineBases
pub mod ReachedAnswers
pub mod ValidRuns
pub mod ValidityLaws
