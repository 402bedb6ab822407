-- What an insertion does to the rows of a basis and to their coefficients.
-- From: Gauss-Jordan elimination.
use Rattle.std.specs.Prelude.{ℕ, List, [], ◌∷◌, ◌++◌}
use Rattle.pq_base.specs.Elementary.{zeros}
use Rattle.fp_rows.specs.Rows.{scale_row, add_scaled}
use Rattle.fp_rows.specs.Row.{at_column}
use Rattle.fp_echelon.specs.Reduced.{BasisRow}
use Rattle.fp_echelon.specs.Reduction.{negative}

-- a row to insert, as the last of n + 1 rows
abbrev pub started : List ℕ → ℕ → BasisRow
started x n = record { pivot = 0; row = x; coefficients = zeros n ++ 1 ∷ [] }

-- a coefficient 0 for the row to insert
abbrev pub extended : List BasisRow → List BasisRow
extended [] = []
extended (b ∷ bs) = record { pivot = b.pivot; row = b.row; coefficients = b.coefficients ++ 0 ∷ [] } ∷ extended bs

-- b with the column of a's pivot made 0 by means of a
abbrev pub clear_by : ℕ → BasisRow → BasisRow → BasisRow
clear_by p a b = record {
  pivot = b.pivot;
  row = add_scaled p (negative p (at_column b.row a.pivot)) b.row a.row;
  coefficients = add_scaled p (negative p (at_column b.row a.pivot)) b.coefficients a.coefficients;
}

-- b with the columns of all pivots made 0 in turn
abbrev pub clear_by_each : ℕ → List BasisRow → BasisRow → BasisRow
clear_by_each p [] b = b
clear_by_each p (a ∷ bs) b = clear_by_each p bs (clear_by p a b)

-- each row with the column of a's pivot made 0
abbrev pub clear_each : ℕ → BasisRow → List BasisRow → List BasisRow
clear_each p a [] = []
clear_each p a (b ∷ bs) = clear_by p a b ∷ clear_each p a bs

-- k times a row, with its pivot at column c
abbrev pub scaled : ℕ → ℕ → ℕ → BasisRow → BasisRow
scaled p c k b = record { pivot = c; row = scale_row p k b.row; coefficients = scale_row p k b.coefficients }

-- the new row of a basis: x reduced, and times k
abbrev pub new_row : ℕ → ℕ → ℕ → List ℕ → ℕ → List BasisRow → BasisRow
new_row p c k x n bs = scaled p c k (clear_by_each p (extended bs) (started x n))

-- the rows of the basis after x was inserted as the last of n + 1 rows
abbrev pub inserted : ℕ → ℕ → ℕ → List ℕ → ℕ → List BasisRow → List BasisRow
inserted p c k x n bs = clear_each p (new_row p c k x n bs) (extended bs) ++ new_row p c k x n bs ∷ []
