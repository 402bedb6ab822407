-- Answers that are cut to a class, the words that die in them, and how entries define their generators.
pub mod ListParts
pub mod CutParts
pub mod CutAnswers
pub mod CutClasses
pub mod CarriedDeaths
pub mod DeathsByClass
pub mod DeathsAlike
pub mod NewParts
pub mod EntryValues
pub mod Layers
pub mod SameTurns
pub mod ExactCuts
pub mod NewGenerators
pub mod SameParts
pub mod SameCuts
