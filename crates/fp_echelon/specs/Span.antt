-- Combinations and spans of rows of one width.
-- From: vector spaces over the field of p elements.
use Rattle.std.specs.Prelude.{◌≡◌, ℕ, List, [], ◌∷◌, length}
use Rattle.pq_base.specs.Elementary.{zeros}
use Rattle.fp_rows.specs.Rows.{IsRow, add_rows, scale_row}

-- the sum of the rows, each times its coefficient
abbrev pub combine : ℕ → ℕ → List ℕ → List (List ℕ) → List ℕ
combine p width [] rows = zeros width
combine p width (c ∷ cs) [] = zeros width
combine p width (c ∷ cs) (r ∷ rows) = add_rows p (scale_row p c r) (combine p width cs rows)

abbrev pub AreRows : ℕ → ℕ → List (List ℕ) → Type 0
AreRows p width [] = Unit {0}
AreRows p width (r ∷ rows) = IsRow p width r × AreRows p width rows

-- a row that is a combination of rows
pub record InSpan (p width : ℕ) (rows : List (List ℕ)) (x : List ℕ) : Type 0 where
  pub coefficients : List ℕ
  pub fits : IsRow p (length rows) coefficients
  pub sum : combine p width coefficients rows ≡ x

-- each of some rows is in the span of others
abbrev pub EachInSpan : ℕ → ℕ → List (List ℕ) → List (List ℕ) → Type 0
EachInSpan p width rows [] = Unit {0}
EachInSpan p width rows (x ∷ xs) = InSpan p width rows x × EachInSpan p width rows xs
