-- Canonical answers: weights give the class, heavy tails are trivial, entries take turns.
pub mod CanonicalAnswers
pub mod CanonicalSteps
pub mod ClassesByWeight
pub mod EarlierTurns
pub mod HeavyTails
pub mod ReadyAnswers
pub mod ExactClasses
pub mod LeftOutTurns
pub mod KeptTurns
pub mod NextObeys
