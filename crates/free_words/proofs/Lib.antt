pub mod Lengths
pub mod LastLetters
pub mod Powers
pub mod Substitutions
pub mod Reductions
