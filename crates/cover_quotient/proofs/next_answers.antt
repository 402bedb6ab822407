-- The next answer: its weights, words, images, spellings, values and class.
pub mod NextAnswers
pub mod NextClass
pub mod NextDrafts
pub mod NextEntries
pub mod NextImages
pub mod NextSides
pub mod NextSpellings
pub mod NextValues
pub mod NextWords
pub mod NextReady
pub mod NothingKept
pub mod AcceptedRelations
pub mod CombinedAnswers
pub mod CombinedTails
pub mod AnswerLaws
