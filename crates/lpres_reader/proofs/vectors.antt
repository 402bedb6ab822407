-- What the grammar says of small texts: presentations that they read as, and first faults.
pub mod Texts
pub mod Readings
pub mod FirstFaults
pub mod Limits
pub mod Samples
