-- Sums of rows that lines name, and what tails become by lines.
pub mod PairSums
pub mod SumSteps
pub mod LineCombinations
