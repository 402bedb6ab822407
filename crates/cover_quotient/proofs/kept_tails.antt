-- The tails that a reduced basis keeps: columns, rows, sources, and what the others become.
pub mod KeptColumns
pub mod KeptCombinations
pub mod KeptCount
pub mod KeptRows
pub mod KeptUnits
pub mod KeptValues
pub mod KeptSpellings
pub mod KeptTails
pub mod KeptThemselves
pub mod CoverUnits
pub mod EliminatedAnswers
pub mod FirstSteps
