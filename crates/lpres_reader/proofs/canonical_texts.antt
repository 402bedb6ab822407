-- The canonical text of a presentation: its lines and tokens, its length, and that it reads back.
pub mod CanonicalItems
pub mod CanonicalLengths
pub mod CanonicalLines
pub mod CanonicalReads
pub mod CanonicalTokens
pub mod CanonicalVectors
pub mod CanonicalWords
pub mod DecimalNumbers
pub mod RunLaws
pub mod RunWords
pub mod WrittenLines
