-- What a source and a sink tell of a command.
use Rattle.std.specs.Prelude.{ℕ, List, Option}

-- what is left in a source before and after, where it tells that, and its counts of faults
pub record Reading : Type 0 where
  pub left : Option (List ℕ)
  pub rest : Option (List ℕ)
  pub before : ℕ
  pub after : ℕ

abbrev pub reading_of : {S : Type 0} → (S → Option (List ℕ)) → (S → ℕ) → S → S → Reading
reading_of left faults old new = record { left = left old; rest = left new; before = faults old; after = faults new }

-- what a sink has taken before and after, where it tells that, and its counts of faults
pub record Writing : Type 0 where
  pub taken : Option (List ℕ)
  pub then : Option (List ℕ)
  pub before : ℕ
  pub after : ℕ

abbrev pub writing_of : {K : Type 0} → (K → Option (List ℕ)) → (K → ℕ) → K → K → Writing
writing_of taken faults old new = record { taken = taken old; then = taken new; before = faults old; after = faults new }
