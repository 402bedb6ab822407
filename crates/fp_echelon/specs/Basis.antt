-- A basis together with the rows that it was made of.
use Rattle.std.specs.Prelude.{◌≡◌, ◌≤◌, ℕ, List, [], ◌∷◌, length}
use Rattle.fp_rows.specs.Rows.{IsRow}
use Rattle.fp_echelon.specs.Span.{combine, AreRows, EachInSpan}
use Rattle.fp_echelon.specs.Reduced.{BasisRow, rows_of, IsReduced}

-- what contracts see of a basis: the inserted rows that were added and the rows of the basis, both in the order of the
-- insertions, and how many more can be added without memory
pub record Echelon : Type 0 where
  pub prime : ℕ
  pub width : ℕ
  pub added : List (List ℕ)
  pub rows : List BasisRow
  pub spare : ℕ

-- a row of the basis is the sum of the added rows that its coefficients say
pub record IsSum (p width : ℕ) (added : List (List ℕ)) (b : BasisRow) : Type 0 where
  pub fits : IsRow p (length added) b.coefficients
  pub sum : combine p width b.coefficients added ≡ b.row

abbrev pub AreSums : ℕ → ℕ → List (List ℕ) → List BasisRow → Type 0
AreSums p width added [] = Unit {0}
AreSums p width added (b ∷ bs) = IsSum p width added b × AreSums p width added bs

-- the rows are a reduced basis of the span of the added rows, which are independent
pub record IsBasis (B : Echelon) : Type 0 where
  pub prime : 2 ≤ B.prime
  pub added : AreRows B.prime B.width B.added
  pub count : length B.rows ≡ length B.added
  pub reduced : IsReduced B.prime B.width B.rows
  pub sums : AreSums B.prime B.width B.added B.rows
  pub spanned : EachInSpan B.prime B.width (rows_of B.rows) B.added
