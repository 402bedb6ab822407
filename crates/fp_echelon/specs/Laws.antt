-- What is proved of spans and reduced bases alone. Each statement is the contract of a function of `laws`.
-- From: the uniqueness of reduced echelon forms.
use Rattle.std.specs.Prelude.{◌≡◌, ◌↔◌, ◌<◌, ◌≤◌, ◌*◌, ◌%◌, ℕ, List}
use Rattle.fp_rows.specs.Rows.{IsRow}
use Rattle.fp_rows.specs.Row.{IsZeroRow}
use Rattle.fp_echelon.specs.Span.{AreRows, InSpan}
use Rattle.fp_echelon.specs.Reduced.{BasisRow, rows_of, IsPivot, at_pivot, IsReduced, IsRepresentative}
use Rattle.fp_echelon.specs.Basis.{Echelon, IsBasis}

-- two lists of rows span the same
abbrev pub SpanTheSame : ℕ → ℕ → List (List ℕ) → List (List ℕ) → Type 0
SpanTheSame p width rows others = (x : List ℕ) → InSpan p width rows x ↔ InSpan p width others x

-- a basis spans exactly what the added rows span
abbrev pub BasesSpanTheAddedRows : Type 0
BasesSpanTheAddedRows = (B : Echelon) → IsBasis B → SpanTheSame B.prime B.width B.added (rows_of B.rows)

-- a row has at most one representative modulo a span
abbrev pub RepresentativesAreUnique : Type 0
RepresentativesAreUnique = (p width : ℕ) (bs : List BasisRow) (x y z : List ℕ) → 2 ≤ p → IsReduced p width bs → IsRow p width x
    → IsRepresentative p width bs x y → IsRepresentative p width bs x z → y ≡ z

-- a row is in the span exactly where its representative is zero
abbrev pub RowsOfTheSpanReduceToZero : Type 0
RowsOfTheSpanReduceToZero = (p width : ℕ) (bs : List BasisRow) (x y : List ℕ) → 2 ≤ p → IsReduced p width bs → IsRow p width x
    → IsRepresentative p width bs x y → InSpan p width (rows_of bs) x ↔ IsZeroRow y

-- the same pivots and at each the same row
pub record HaveTheSameRows (bs cs : List BasisRow) : Type 0 where
  pub pivots : (c : ℕ) → IsPivot c bs ↔ IsPivot c cs
  pub rows : (c : ℕ) → (at_pivot c bs).row ≡ (at_pivot c cs).row

-- reduced bases of one span have the same rows
abbrev pub ReducedBasesOfOneSpanAreEqual : Type 0
ReducedBasesOfOneSpanAreEqual = (p width : ℕ) (bs cs : List BasisRow) → 2 ≤ p → IsReduced p width bs → IsReduced p width cs
    → SpanTheSame p width (rows_of bs) (rows_of cs) → HaveTheSameRows bs cs

-- each residue but 0 has an inverse
abbrev pub HasInverses : ℕ → Type 0
HasInverses p = (a : ℕ) → 0 < a → a < p → (k : ℕ) × ((a * k) % p ≡ 1)

-- a reduced basis of the span of some rows
pub record ReducedBasisOf (p width : ℕ) (rows : List (List ℕ)) : Type 0 where
  pub basis : List BasisRow
  pub reduced : IsReduced p width basis
  pub spans : SpanTheSame p width rows (rows_of basis)

-- every list of rows has one
abbrev pub EverySpanHasAReducedBasis : Type 0
EverySpanHasAReducedBasis =
    (p width : ℕ) (rows : List (List ℕ)) → 2 ≤ p → HasInverses p → AreRows p width rows → ReducedBasisOf p width rows
