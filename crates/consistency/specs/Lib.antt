pub mod AllOverlaps
pub mod OverlapsLeft
pub mod ConsistencyLaws
