pub mod Rows
pub mod Row
pub mod Differences
pub mod Lanes
