-- Lines of a step whose numbers are in range, and pairs of numbers and coefficients.
-- From: this project's own checker.
use Rattle.std.specs.Prelude.{◌≤◌, ◌<◌, ◌-◌, ◌+◌, ◌%◌, ℕ, suc, List, [], ◌∷◌, slice_set}
use Rattle.fp_rows.specs.Row.{at_column}
use Rattle.derivation_log.specs.Certificates.{TailLine}

-- numbers that rise from a least one on and are at most n, each with a residue
abbrev pub ArePairs : ℕ → ℕ → ℕ → List (ℕ × ℕ) → Type 0
ArePairs p least n [] = Unit {0}
ArePairs p least n (a ∷ pairs) = (least ≤ a.0) × (a.0 ≤ n) × (a.1 < p) × ArePairs p (suc a.0) n pairs

-- a line that names tails below its own, and some of n sources
pub record IsLineOver (p n : ℕ) (l : TailLine) : Type 0 where
  pub first : 1 ≤ l.tail
  pub kept : ArePairs p 1 (l.tail - 1) l.kept
  pub sums : ArePairs p 1 n l.sums

-- a row with k more at a column
abbrev pub raised : ℕ → List ℕ → ℕ → ℕ → List ℕ
raised p xs column k = slice_set xs (column - 1) ((at_column xs column + k) % p)
