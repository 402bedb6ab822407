-- Rows modulo a span, and the rows that are trivial.
pub mod ConsistentQuotients
pub mod TrivialRows
pub mod OverlapRows
pub mod SpannedWords
