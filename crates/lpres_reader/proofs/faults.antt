-- Trials against limits, the faults of a line and of a text, and the verdict on each.
pub mod FaultLaws
pub mod LineFaults
pub mod LineVerdicts
pub mod FirstLines
pub mod Decisions
pub mod Positions
pub mod TrialLaws
pub mod Tried
pub mod TriedFirst
pub mod TriedSoFar
pub mod StateTrials
pub mod FirstPassed
pub mod HandedOn
pub mod Refusing
pub mod ReaderLaws
