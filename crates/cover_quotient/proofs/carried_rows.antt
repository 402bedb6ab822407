-- Rows over tails carried to rows over other tails: their words, values and presentations.
pub mod CarriedRows
pub mod CarriedPresentations
pub mod CarriedWords
pub mod CarriedAnswers
pub mod RowWords
pub mod RowValues
pub mod UnitRows
