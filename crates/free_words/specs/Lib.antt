pub mod Letters
pub mod Gives
pub mod Reduced
