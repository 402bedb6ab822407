-- Agreeing overlaps make a presentation consistent, and every word reaches a normal word.
pub mod LetterWords
pub mod StateGroup
pub mod GroupRelators
pub mod StateValues
pub mod StateRelators
pub mod Reached
pub mod Consistency
pub mod ConsistentPushes
pub mod ConsistentOverlaps
pub mod OverlapWays
pub mod OverlapKinds
pub mod OverlapNumberLaws
pub mod OverlapRows
