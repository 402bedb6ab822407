-- What the calls ask for that make the words of samples.
use Rattle.std.specs.Prelude.{◌≡◌, ℤ, List, length, All, Result, Ok, Err}
use Rattle.free_words.specs.declared.refusal.WordRefusal.{WordRefusal}
use Rattle.free_words.specs.declared.refusal.WordRefusal.TheVariants.{TooLong, NoMemory}
use Rattle.pq_base.specs.SignedWord.{HasLetters}

-- a call gave a word, or memory was wanting for it
abbrev pub IsNotTooLong : Result (List ℤ) WordRefusal → Type 0
IsNotTooLong (Ok w) = Unit {0}
IsNotTooLong (Err (TooLong n)) = ⊥
IsNotTooLong (Err NoMemory) = Unit {0}

-- a word that is drawn: 200 letters, in the first two generators
pub record IsDrawn (w : List ℤ) : Type 0 where
  pub letters : HasLetters 2 w
  pub count : length w ≡ 200

-- the words of a sample
pub record AreDrawn (ws : List (List ℤ)) : Type 0 where
  pub each : All IsDrawn ws
  pub count : length ws ≡ 30
