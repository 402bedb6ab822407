-- Judging the parts of a certificate in turn: of a step, of a run, and what the steps build.
pub mod Judging
pub mod StepForms
pub mod BuiltAnswers
pub mod StepParts
pub mod RunSteps
pub mod RunParts
