-- Generators that commute: pushes that may be exchanged, and what a push may leave in place.
pub mod SpelledPushes
pub mod FollowedPushes
pub mod BarePasses
pub mod CommutingPushes
pub mod LettersStay
pub mod Leads
pub mod PlainSteps
pub mod ShortcutLaws
pub mod EmptySides
pub mod Shortcuts
pub mod AddedTails
pub mod ExponentsBetween
