pub mod unique
pub mod RestrictedAnswers
pub mod SameDeaths
pub mod UniqueAnswers
