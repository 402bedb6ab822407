pub mod LineForms
pub mod LineRows
pub mod LineBases
pub mod SourceRows
pub mod PassedStep
pub mod ValidRuns
pub mod AnswerCuts
pub mod CanonicalSteps
pub mod FullRuns
pub mod KilledRelators
pub mod ValidCertificates
mod LargestVectors
