-- Words by their lengths first: the value of a line, and the steps that write its letters.
pub mod FactorLaws
pub mod ProductLaws
pub mod RecipeLaws
pub mod WritingLaws
pub mod ValueEnds
pub mod ValueRuns
pub mod ValueSteps
pub mod PlainRuns
