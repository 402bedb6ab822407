pub mod Faults
pub mod Writing
pub mod Memory
pub mod Sure
pub mod Standard
