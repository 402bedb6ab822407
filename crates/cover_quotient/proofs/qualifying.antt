-- The rows of the qualifying relations span the last level, so kept tails qualify.
pub mod LastLevels
pub mod KeptTailLaws
pub mod QualifyingRows
pub mod QualifyingSpan
