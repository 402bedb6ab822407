pub mod LightCovers
pub mod LightOverlaps
pub mod LightParts
pub mod WeightedRows
pub mod WeightLaws
