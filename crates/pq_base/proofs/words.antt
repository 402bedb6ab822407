-- Signed words, chains of joined words, and what the generators of an answer spell.
pub mod WordLaws
pub mod LetterLaws
pub mod ChainLaws
pub mod JoinedLaws
pub mod RangeLaws
pub mod WordGroup
pub mod CentralWords
pub mod AlongLaws
pub mod SpelledWords
pub mod SpelledLists
pub mod SpellingLetters
pub mod SpelledBack
