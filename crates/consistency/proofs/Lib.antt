pub mod OverlapList
pub mod OverlapOrder
pub mod CoverRows
mod OverlapVectors
