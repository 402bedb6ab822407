-- Reduced bases: each row has 1 at its pivot, which is its last nonzero column, and the other rows have 0 there.
-- From: row echelon forms, read from the last column.
use Rattle.std.specs.Prelude.{◌≡◌, ◌⊎◌, ℕ, List, [], ◌∷◌, eqb, cond, map}
use Rattle.fp_rows.specs.Rows.{IsRow}
use Rattle.fp_rows.specs.Row.{at_column, IsLastNonzero}
use Rattle.fp_rows.specs.Differences.{difference}
use Rattle.fp_echelon.specs.Span.{InSpan}

-- a row of a basis, with its pivot's column and its coefficients over the rows that the basis was made of
pub record BasisRow : Type 0 where
  pub pivot : ℕ
  pub row : List ℕ
  pub coefficients : List ℕ

abbrev pub rows_of : List BasisRow → List (List ℕ)
rows_of [] = []
rows_of (b ∷ bs) = b.row ∷ rows_of bs

abbrev pub pivots_of : List BasisRow → List ℕ
pivots_of [] = []
pivots_of (b ∷ bs) = b.pivot ∷ pivots_of bs

abbrev pub IsPivot : ℕ → List BasisRow → Type 0
IsPivot c [] = ⊥
IsPivot c (b ∷ bs) = (b.pivot ≡ c) ⊎ IsPivot c bs

-- the row with this pivot
abbrev pub at_pivot : ℕ → List BasisRow → BasisRow
at_pivot c [] = record { pivot = 0; row = []; coefficients = [] }
at_pivot c (b ∷ bs) = cond (eqb b.pivot c) b (at_pivot c bs)

-- each row is 0 at this column
abbrev pub ZeroAt : ℕ → List BasisRow → Type 0
ZeroAt c [] = Unit {0}
ZeroAt c (b ∷ bs) = (at_column b.row c ≡ 0) × ZeroAt c bs

-- a list of entries is 0 at each pivot
abbrev pub ZeroAtPivots : List ℕ → List BasisRow → Type 0
ZeroAtPivots x [] = Unit {0}
ZeroAtPivots x (b ∷ bs) = (at_column x b.pivot ≡ 0) × ZeroAtPivots x bs

pub record IsPivotRow (p width : ℕ) (b : BasisRow) : Type 0 where
  pub fits : IsRow p width b.row
  pub last : IsLastNonzero b.row b.pivot
  pub one : at_column b.row b.pivot ≡ 1

-- a row and others that are each 0 at the other's pivot
pub record AreApart (b : BasisRow) (bs : List BasisRow) : Type 0 where
  pub others : ZeroAt b.pivot bs
  pub own : ZeroAtPivots b.row bs

abbrev pub IsReduced : ℕ → ℕ → List BasisRow → Type 0
IsReduced p width [] = Unit {0}
IsReduced p width (b ∷ bs) = IsPivotRow p width b × AreApart b bs × IsReduced p width bs

-- y differs from x by a row of the span, and is 0 at each pivot
pub record IsRepresentative (p width : ℕ) (bs : List BasisRow) (x y : List ℕ) : Type 0 where
  pub fits : IsRow p width y
  pub zero : ZeroAtPivots y bs
  pub span : InSpan p width (rows_of bs) (difference p y x)
