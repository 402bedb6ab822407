-- Rows together with their prime, and their entries by columns, which are counted from 1.
use Rattle.std.specs.Prelude.{◌≡◌, ◌≢◌, ◌≤◌, ◌<◌, ◌-◌, ℕ, List, [], ◌∷◌, get_or, length}

-- what contracts see of a row
pub record PrimeRow : Type 0 where
  pub prime : ℕ
  pub entries : List ℕ

-- the entry at a column, and 0 past the last
abbrev pub at_column : List ℕ → ℕ → ℕ
at_column xs c = get_or xs (c - 1) 0

-- a column of a row
pub record IsColumn (xs : List ℕ) (c : ℕ) : Type 0 where
  pub first : 1 ≤ c
  pub last : c ≤ length xs

abbrev pub IsZeroRow : List ℕ → Type 0
IsZeroRow [] = Unit {0}
IsZeroRow (x ∷ xs) = (x ≡ 0) × IsZeroRow xs

-- the last column whose entry isn't 0
pub record IsLastNonzero (xs : List ℕ) (c : ℕ) : Type 0 where
  pub column : IsColumn xs c
  pub nonzero : at_column xs c ≢ 0
  pub zero_after : (d : ℕ) → c < d → at_column xs d ≡ 0
