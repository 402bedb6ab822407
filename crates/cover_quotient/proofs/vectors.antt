-- What the definitions say of small covers: examples that meet them and some that do not.
pub mod FitsVectors
pub mod KeptVectors
pub mod LargestStepVectors
pub mod LevelVectors
pub mod NextAnswerVectors
pub mod NextPartsVectors
pub mod OverlapVectors
pub mod QualifyingVectors
pub mod StepVectors
pub mod TurnVectors
