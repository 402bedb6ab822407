-- Rows that are found: each source has one at most, whether it has one, and those of a step.
pub mod OneRow
pub mod SourceRows
pub mod StepRows
