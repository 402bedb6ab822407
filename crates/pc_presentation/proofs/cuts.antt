-- Presentations cut after some generator, and words in later generators.
pub mod LaterWords
pub mod CutSides
pub mod Cuts
