-- Answers that are the largest quotients of each class: elements that obey fit them, they are ready for the next class, and the tails
-- that a step keeps of them may define generators.
pub mod LargestFits
pub mod LargestReady
pub mod LargestKeptTails
