-- Relators and images: what a line adds to a presentation, and whether all images are given.
pub mod ItemMakes
pub mod ItemReads
pub mod AddedLaws
pub mod AddedLetters
pub mod Adding
pub mod ImageArrows
pub mod GivesEachLaws
pub mod ArrowTexts
pub mod GatheredSteps
pub mod EndoLetters
pub mod EndoPlaces
pub mod KeptWords
pub mod PartLimits
pub mod Suffixes
