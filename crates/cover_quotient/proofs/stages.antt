-- Stages and towers: the answers of each class are largest quotients, and have the order of their rank.
pub mod ImageNumbers
pub mod LargestOrders
pub mod FirstStages
pub mod FittedSteps
pub mod OwedTails
pub mod CoverTables
pub mod StepsOver
pub mod NextStages
pub mod Towers
