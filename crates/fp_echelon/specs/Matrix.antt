-- Square matrices of residues modulo a prime. A row times a matrix is the sum of the rows of the matrix, each times the entry
-- of the row at its place.
-- From: vector spaces over the field of p elements.
use Rattle.std.specs.Prelude.{◌≡◌, ◌≤◌, ℕ, List, [], ◌∷◌, length, map}
use Rattle.fp_rows.specs.Row.{PrimeRow}
use Rattle.fp_rows.specs.Rows.{IsRow}
use Rattle.fp_echelon.specs.Span.{combine, AreRows, InSpan}

-- what contracts see of a matrix
pub record PrimeMatrix : Type 0 where
  pub prime : ℕ
  pub width : ℕ
  pub rows : List (List ℕ)

-- as many rows as columns
pub record IsMatrix (m : PrimeMatrix) : Type 0 where
  pub prime : 2 ≤ m.prime
  pub count : length m.rows ≡ m.width
  pub rows : AreRows m.prime m.width m.rows

-- a row times the matrix of some rows
abbrev pub times_matrix : ℕ → ℕ → List (List ℕ) → List ℕ → List ℕ
times_matrix p width rows x = combine p width x rows

-- a matrix carries the span of some rows into the span of others
abbrev pub Carries : ℕ → ℕ → List (List ℕ) → List (List ℕ) → List (List ℕ) → Type 0
Carries p width m rows others = (x : List ℕ) → InSpan p width rows x → InSpan p width others (times_matrix p width m x)

-- the entries of rows that are kept with their prime
abbrev pub entries_of : List PrimeRow → List (List ℕ)
entries_of rows = map (λ r. r.entries) rows

-- rows of one prime and one width
abbrev pub AreKept : ℕ → ℕ → List PrimeRow → Type 0
AreKept p width [] = Unit {0}
AreKept p width (r ∷ rows) = (r.prime ≡ p) × IsRow p width r.entries × AreKept p width rows

pub record HoldsMatrix (p width : ℕ) (rows : List PrimeRow) : Type 0 where
  pub count : length rows ≡ width
  pub kept : AreKept p width rows
