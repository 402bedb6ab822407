pub mod presentations
pub mod collecting
pub mod consistent
pub mod normal_tables
pub mod quotients
pub mod rows
pub mod cuts
pub mod commuting
