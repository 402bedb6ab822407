-- Rows over the light tails and rows over all tails, and words of such rows that are trivial.
pub mod CombinedSources
pub mod RowsOverOneBase
pub mod LightRows
pub mod LightWords
pub mod LightQuotients
