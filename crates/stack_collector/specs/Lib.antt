pub mod Frames
pub mod FrameSteps
pub mod Stacks
