-- Maps of answers: elements that make one, how it is decided, and those that endomorphisms induce.
pub mod MadeMaps
pub mod MapDecisions
pub mod InducedMaps
