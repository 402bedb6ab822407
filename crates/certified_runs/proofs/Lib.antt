pub mod AnswerParts
pub mod Extensions
pub mod KeptSources
pub mod RunAnswers
pub mod LargestMaps
pub mod PlainMaps
pub mod MapParts
pub mod CertifiedRuns
pub mod GivenRuns
pub mod FittingRuns
pub mod FewSources
mod RunVectors
