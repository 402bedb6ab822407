pub mod found_rows
pub mod summing
pub mod ListSteps
pub mod KeptTails
pub mod words
mod AgreedLaws
mod Tailless
pub mod judging
pub mod mapping
mod EqualAnswers
