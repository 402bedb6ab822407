pub mod Samples
pub mod Summary
pub mod SampleLaws
pub mod Pieces
