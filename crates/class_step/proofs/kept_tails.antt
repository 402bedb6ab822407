-- What a basis makes of the tails: which are kept, and which combinations of kept ones the others become.
pub mod BasisCombinations
pub mod KeptSteps
pub mod TailEntries
pub mod TailParts
