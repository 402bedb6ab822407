-- The texts of numbers, sources and tail lines: each tells what it is of, and is one line.
pub mod NumberTexts
pub mod NumbersRead
pub mod OverlapsRead
pub mod PairsRead
pub mod SourceTexts
pub mod SourcesRead
pub mod TailTexts
pub mod TailsRead
