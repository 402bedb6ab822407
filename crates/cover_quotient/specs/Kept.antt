-- Which tails a reduced basis keeps, and what it makes of the others: the columns without a pivot are kept, and a row is
-- carried to the kept entries of its representative modulo the basis. So a tail with a pivot becomes minus the other
-- entries of its basis row.
-- From: Gaussian elimination of tails in Newman and O'Brien's method.
use Rattle.std.specs.Prelude.{ℕ, Bool, false, not, ◌||◌, eqb, List, [], ◌∷◌, map, filter}
use Rattle.pq_base.specs.Canonical.{numbers_from}
use Rattle.fp_rows.specs.Row.{at_column}
use Rattle.fp_echelon.specs.Reduced.{BasisRow, pivots_of}
use Rattle.fp_echelon.specs.Reduction.{reduce_by}
use Rattle.pc_presentation.specs.Pcp.{unit_row}
use Rattle.cover_quotient.specs.Combinations.{TailCombinations}

abbrev pub is_listed : ℕ → List ℕ → Bool
is_listed c [] = false
is_listed c (d ∷ ds) = eqb c d || is_listed c ds

-- the columns, counted from 1, that are no pivot
abbrev pub kept_columns : ℕ → List BasisRow → List ℕ
kept_columns width bs = filter (λ c. not (is_listed c (pivots_of bs))) (numbers_from 1 width)

-- the entries at some columns
abbrev pub entries_at : List ℕ → List ℕ → List ℕ
entries_at columns x = map (at_column x) columns

-- for each tail the kept entries of its representative
abbrev pub kept_rows : ℕ → ℕ → List BasisRow → List (List ℕ)
kept_rows p width bs = map (λ t. entries_at (kept_columns width bs) (reduce_by p bs (unit_row width t))) (numbers_from 1 width)

-- what the tails become modulo a reduced basis
abbrev pub kept_combinations : ℕ → ℕ → List BasisRow → TailCombinations
kept_combinations p width bs = record { prime = p; kept = kept_columns width bs; rows = kept_rows p width bs }
