-- The letters that fit a signed word of 32 bits, with their inverses.
use Rattle.std.specs.Prelude.{◌≤◌, ℤ, List, length}
use Rattle.pq_base.specs.Limits.{max_letters}
use Rattle.pq_base.specs.SignedWord.{HasLetters}

-- each letter is the number of a generator or its negative, from 1 to 2 ^ 31 - 1 in size
abbrev pub AreLetters : List ℤ → Type 0
AreLetters w = HasLetters 2147483647 w

-- such letters, and no more of them than a word may have
pub record IsWord (w : List ℤ) : Type 0 where
  pub letters : AreLetters w
  pub limit : length w ≤ max_letters
