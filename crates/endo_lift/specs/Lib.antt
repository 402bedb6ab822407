pub mod Lifts
pub mod LiftLaws
pub mod Values
