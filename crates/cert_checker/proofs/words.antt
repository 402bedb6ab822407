-- Words of elements: of definitions, of relations, of images, and of what images carry.
pub mod DefinitionWords
pub mod DefinedWords
pub mod RelationWords
pub mod ImageWords
pub mod CarriedWords
