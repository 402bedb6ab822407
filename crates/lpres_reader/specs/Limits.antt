-- The limits on a presentation that is read or written.
use Rattle.std.specs.Prelude.{◌≤◌, ℕ, ◌+◌, ℤ, List, length, All, sum_by}
use Rattle.pq_base.specs.LPresentation.{LPresentation}
use Rattle.lpres_reader.specs.Words.{letter_limit}

-- no word of the list has too many letters
abbrev pub AreShort : List (List ℤ) → Type 0
AreShort ws = All (λ w. length w ≤ letter_limit) ws

-- the letters of all words of a list
abbrev pub letters_in : List (List ℤ) → ℕ
letters_in ws = sum_by length ws

-- the letters of all relators and images
abbrev pub total_letters : LPresentation → ℕ
total_letters L = letters_in L.fixed + letters_in L.iterated + sum_by letters_in L.endos

pub record IsWithinLimits (L : LPresentation) : Type 0 where
  pub some_generator : 1 ≤ length L.names
  pub generators : length L.names ≤ 32
  pub name_lengths : All (λ n. length n ≤ 32) L.names
  pub fixed : length L.fixed ≤ 4096
  pub iterated : length L.iterated ≤ 4096
  pub endos : length L.endos ≤ 16
  pub fixed_letters : AreShort L.fixed
  pub iterated_letters : AreShort L.iterated
  pub endo_letters : All AreShort L.endos
  pub total : total_letters L ≤ 4194304
