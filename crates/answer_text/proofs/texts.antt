-- The texts of names, numbers, syllables, words and relations, and reading them back.
pub mod NameTexts
pub mod NumberTexts
pub mod PieceTexts
pub mod RelationTexts
pub mod SyllableTexts
pub mod WordTexts
