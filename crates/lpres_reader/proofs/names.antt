-- The names of a text: distinct, in order, found again, and known on a line.
pub mod NamesLaws
pub mod NamesSoFar
pub mod NamedFronts
pub mod KeptNames
pub mod Places
pub mod GeneratorLines
pub mod GeneratorSearch
pub mod KnownRuns
