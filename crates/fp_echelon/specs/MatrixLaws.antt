-- What is proved of matrices alone. Each statement is the contract of a function of `laws`.
-- From: vector spaces over the field of p elements.
use Rattle.std.specs.Prelude.{◌≡◌, ◌<◌, ℕ, List, map}
use Rattle.fp_rows.specs.Rows.{IsRow, add_rows, scale_row}
use Rattle.fp_echelon.specs.Span.{AreRows, EachInSpan}
use Rattle.fp_echelon.specs.Matrix.{PrimeMatrix, IsMatrix, times_matrix, Carries}

-- a map of the rows of one width that keeps sums and multiples
pub record IsLinearMap (p width : ℕ) (f : List ℕ → List ℕ) : Type 0 where
  pub rows : (x : List ℕ) → IsRow p width x → IsRow p width (f x)
  pub sums : (x y : List ℕ) → IsRow p width x → IsRow p width y → f (add_rows p x y) ≡ add_rows p (f x) (f y)
  pub multiples : (k : ℕ) (x : List ℕ) → IsRow p width x → f (scale_row p k x) ≡ scale_row p k (f x)

-- to multiply by a matrix is such a map
abbrev pub MatricesAreLinear : Type 0
MatricesAreLinear = (m : PrimeMatrix) → IsMatrix m → IsLinearMap m.prime m.width (times_matrix m.prime m.width m.rows)

-- a matrix carries a span into another where it carries each of its rows there
abbrev pub MatricesCarrySpans : Type 0
MatricesCarrySpans =
    (p width : ℕ) (m rows others : List (List ℕ)) → 0 < p → AreRows p width m → AreRows p width rows → AreRows p width others
    → EachInSpan p width others (map (times_matrix p width m) rows) → Carries p width m rows others
