pub mod Begun
pub mod FrameLaws
pub mod StepsInTurn
pub mod Passes
pub mod StackLaws
pub mod WordLaws
