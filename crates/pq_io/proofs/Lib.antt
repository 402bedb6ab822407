pub mod ReadingLemmas
pub mod WritingLemmas
mod Offers
mod Keeping
