pub mod Progress
pub mod EmptyPasses
pub mod CopiesBehind
