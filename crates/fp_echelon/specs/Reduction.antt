-- Reduction of a row by a reduced basis, column by column.
-- From: Gauss-Jordan elimination.
use Rattle.std.specs.Prelude.{◌-◌, ◌%◌, ℕ, List, [], ◌∷◌}
use Rattle.fp_rows.specs.Rows.{add_scaled}
use Rattle.fp_rows.specs.Row.{at_column}
use Rattle.fp_echelon.specs.Reduced.{BasisRow}

-- the residue that makes 0 with k
abbrev pub negative : ℕ → ℕ → ℕ
negative p k = (p - k) % p

-- a row with column c made 0 by means of a row that has 1 there
abbrev pub cleared : ℕ → ℕ → List ℕ → List ℕ → List ℕ
cleared p c b x = add_scaled p (negative p (at_column x c)) x b

-- a row with the columns of the pivots made 0 in turn
abbrev pub reduce_by : ℕ → List BasisRow → List ℕ → List ℕ
reduce_by p [] x = x
reduce_by p (b ∷ bs) x = reduce_by p bs (cleared p b.pivot b.row x)
