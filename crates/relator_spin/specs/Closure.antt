-- Rows times matrices, and spans that matrices carry into themselves.
-- From: L. Bartholdi, Endomorphic presentations of branch groups, 2003; the closure under endomorphisms in the nilpotent quotient
-- algorithm of L. Bartholdi, B. Eick and R. Hartung for L-presented groups.
use Rattle.std.specs.Prelude.{◌≡◌, ◌≤◌, ◌<◌, ◌-◌, ◌++◌, ℕ, zero, suc, List, [], ◌∷◌, length, get_or, map}
use Rattle.pq_base.specs.LPresentation.{AreEndoNumbers}
use Rattle.fp_rows.specs.Row.{PrimeRow}
use Rattle.fp_echelon.specs.Reduced.{BasisRow, pivots_of}
use Rattle.fp_echelon.specs.Matrix.{PrimeMatrix, times_matrix, Carries, entries_of}
use Rattle.relator_spin.specs.declared.spun.Spun.{Spun}

-- rows and matrices of one prime and one width
abbrev pub AreOver : ℕ → ℕ → List PrimeRow → Type 0
AreOver p width [] = Unit {0}
AreOver p width (r ∷ rows) = (r.prime ≡ p) × (length r.entries ≡ width) × AreOver p width rows

abbrev pub AreMatricesOver : ℕ → ℕ → List PrimeMatrix → Type 0
AreMatricesOver p width [] = Unit {0}
AreMatricesOver p width (m ∷ ms) = (m.prime ≡ p) × (m.width ≡ width) × AreMatricesOver p width ms

-- the rows of the matrix with number e, counted from 1
abbrev pub matrix_at : List PrimeMatrix → ℕ → List (List ℕ)
matrix_at ms zero = []
matrix_at ms (suc n) = get_or (map (λ m. m.rows) ms) n []

-- a row times the matrices of a list of numbers: the last of the list comes first
abbrev pub row_along : ℕ → ℕ → List PrimeMatrix → List ℕ → List ℕ → List ℕ
row_along p width ms [] x = x
row_along p width ms (e ∷ s) x = times_matrix p width (matrix_at ms e) (row_along p width ms s x)

-- the row that a name says
abbrev pub spun_row : ℕ → ℕ → List PrimeRow → List PrimeMatrix → Spun → List ℕ
spun_row p width rows ms s = row_along p width ms s.along (get_or (entries_of rows) (s.row - 1) [])

abbrev pub spun_rows : ℕ → ℕ → List PrimeRow → List PrimeMatrix → List Spun → List (List ℕ)
spun_rows p width rows ms [] = []
spun_rows p width rows ms (s ∷ names) = spun_row p width rows ms s ∷ spun_rows p width rows ms names

-- names of one of n rows, times some of m matrices
abbrev pub AreNames : ℕ → ℕ → List Spun → Type 0
AreNames n m [] = Unit {0}
AreNames n m (s ∷ names) = (1 ≤ s.row) × (s.row ≤ n) × AreEndoNumbers m s.along × AreNames n m names

-- each matrix carries the span of some rows into itself
abbrev pub IsClosed : ℕ → ℕ → List PrimeMatrix → List (List ℕ) → Type 0
IsClosed p width ms rows = (e : ℕ) → e < length ms → Carries p width (matrix_at ms (suc e)) rows rows

-- n pivots more, after those there were
pub record HasMorePivots (old new : List BasisRow) (n : ℕ) : Type 0 where
  pub pivots : List ℕ
  pub after : pivots_of new ≡ pivots_of old ++ pivots
  pub count : length pivots ≡ n
