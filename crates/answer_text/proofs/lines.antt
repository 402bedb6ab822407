-- The lines of an answer's text: which follows which, and how each is read.
pub mod AnswerLines
pub mod LineByLine
pub mod FaultSteps
pub mod LineLeads
pub mod LineTexts
pub mod NextLines
pub mod ReadLines
pub mod SourceLines
pub mod BadLines
