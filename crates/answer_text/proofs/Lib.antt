pub mod NoFloats
pub mod AnswerMembers
mod AnswerVectors
pub mod Splits
pub mod RelationsTold
pub mod ImagesTold
pub mod GeneratorsTold
pub mod HeadTold
pub mod OneText
pub mod Limits
pub mod FormLaws
pub mod AnswerForm
mod FirstPlaces
mod WordSteps
mod RelationAppends
mod AnswerRead
mod GeneratorsRead
mod RelationAdded
pub mod DraftAdded
mod BodyStart
mod BodyAdded
pub mod lines
pub mod faults
pub mod texts
