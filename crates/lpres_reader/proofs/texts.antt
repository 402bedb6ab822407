-- Texts as lines, and lines as tokens.
pub mod TextChains
pub mod TextLines
pub mod TextReads
pub mod TextRuns
pub mod LineTexts
pub mod SeenTexts
pub mod LineBytes
pub mod LineLemmas
pub mod LineSteps
pub mod LineTokens
pub mod LineRuns
pub mod Depths
pub mod Exponents
pub mod FrontLemmas
pub mod PlainFronts
