-- Syntax trees, the parser that reads tokens from the left, and forms and meanings of what is parsed.
pub mod TreeItems
pub mod TreeReads
pub mod TreeWords
pub mod ParsedForms
pub mod ParsedMeanings
pub mod ParserKeeps
pub mod ParserReads
pub mod FormRuns
pub mod FormSteps
pub mod StepRuns
pub mod MeaningLetters
pub mod Leads
pub mod PlainForms
