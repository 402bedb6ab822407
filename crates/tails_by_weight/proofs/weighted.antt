-- Words of generators by their weights, and overlaps whose weights are within bounds or beyond them.
pub mod HeavyWords
pub mod Exchange
pub mod PassedWords
pub mod HeavyOverlaps
pub mod HeavyPowers
pub mod AgreeingWays
pub mod FirstOverlaps
