pub mod Closure
pub mod Spinning
