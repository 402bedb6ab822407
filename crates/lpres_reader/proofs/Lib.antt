pub mod vectors
pub mod canonical_texts
pub mod trees
pub mod faults
pub mod texts
pub mod names
pub mod recipes
pub mod items
