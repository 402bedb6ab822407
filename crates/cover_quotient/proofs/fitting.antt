-- Elements of a group table that fit an answer up to a level of its series, class by class.
pub mod CoverFits
pub mod CoverValues
pub mod EntryLevels
pub mod ExactImages
pub mod FitsStart
pub mod FittingLaws
pub mod JustifiedValues
pub mod NextFits
pub mod TailValues
