pub mod PushedLists
pub mod RoomLaws
pub mod LightParts
pub mod LightSources
pub mod OverlapsByWeight
pub mod weighted
pub mod WeightedConsistency
pub mod light
pub mod LightSpans
mod LightVectors
