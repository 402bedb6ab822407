-- What a call answers that takes a word along a list of endomorphisms. The suffixes of the list are what is left of it
-- from a place on, counted from 0.
use Rattle.std.specs.Prelude.{◌≡◌, ◌<◌, ◌≤◌, ℕ, ℤ, List, length, drop, Result, Ok, Err}
use Rattle.pq_base.specs.LPresentation.{along}
use Rattle.free_words.specs.declared.refusal.WordRefusal.{WordRefusal}
use Rattle.free_words.specs.declared.refusal.WordRefusal.TheVariants.{TooLong, NoMemory}
use Rattle.lpres_reader.specs.Words.{letter_limit}

-- the letters of the image along the suffix of s from place k on
abbrev pub letters_along : List (List (List ℤ)) → List ℕ → List ℤ → ℕ → ℕ
letters_along endos s w k = length (along endos (drop k s) w)

-- n letters, above the limit, are those of the image along a suffix, and along no shorter one there are too many
pub record IsFirstTooLong (endos : List (List (List ℤ))) (s : List ℕ) (w : List ℤ) (n : ℕ) : Type 0 where
  pub place : ℕ
  pub letters : n ≡ letters_along endos s w place
  pub above : letter_limit < n
  pub shorter : (k : ℕ) → place < k → letters_along endos s w k ≤ letter_limit

-- the image along s, if along no suffix there are too many letters, else how many there are along the shortest such
-- suffix; want of memory may come in place of either
abbrev pub GivesAlong : List (List (List ℤ)) → List ℕ → List ℤ → Result (List ℤ) WordRefusal → Type 0
GivesAlong endos s w (Ok u) = (u ≡ along endos s w) × ((k : ℕ) → letters_along endos s w k ≤ letter_limit)
GivesAlong endos s w (Err (TooLong n)) = IsFirstTooLong endos s w n
GivesAlong endos s w (Err NoMemory) = Unit {0}
