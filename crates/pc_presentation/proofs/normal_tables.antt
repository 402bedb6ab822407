-- The normal words of a consistent presentation are the elements of a group table.
pub mod DigitLaws
pub mod NormalProducts
pub mod NormalTableLaws
pub mod LevelWords
pub mod EntryLaws
