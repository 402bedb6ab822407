-- Pushes and directed runs: what collection by the plain rule and by any collector does.
pub mod PushLaws
pub mod PlainRule
pub mod RunLaws
pub mod PlainRuns
pub mod StateProducts
pub mod PassedStates
pub mod RelationsAct
pub mod StepPlaces
pub mod StepShapes
pub mod PassShapes
pub mod AnyRun
pub mod LaterRuns
pub mod OverlapsFrom
pub mod OverlapsAct
pub mod FinalExponents
pub mod CollectionVectors
