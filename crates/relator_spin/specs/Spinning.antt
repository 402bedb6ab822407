-- A closure while it is made: what each step keeps, and what it adds.
use Rattle.std.specs.Prelude.{◌≡◌, ◌≤◌, ◌<◌, ◌+◌, ◌++◌, ◌⊎◌, ℕ, suc, List, [], ◌∷◌, length, get_or, drop}
use Rattle.fp_rows.specs.Row.{PrimeRow}
use Rattle.fp_echelon.specs.Span.{InSpan}
use Rattle.fp_echelon.specs.Reduced.{pivots_of}
use Rattle.fp_echelon.specs.Basis.{Echelon, IsBasis}
use Rattle.fp_echelon.specs.Matrix.{PrimeMatrix, times_matrix}
use Rattle.relator_spin.specs.declared.spun.Spun.{Spun}
use Rattle.relator_spin.specs.Closure.{matrix_at, spun_rows, AreNames}

-- a basis, how many of its rows were there at first, names of the others, and a row for images
pub record Spinning : Type 0 where
  pub older : ℕ
  pub basis : Echelon
  pub spun : List Spun
  pub image : PrimeRow

-- a name for each new row, and room for all rows that can be added
pub record IsReady (w : Spinning) : Type 0 where
  pub basis : IsBasis w.basis
  pub room : w.basis.width ≤ length w.basis.added + w.basis.spare
  pub count : w.older + length w.spun ≡ length w.basis.added
  pub prime : w.image.prime ≡ w.basis.prime
  pub width : length w.image.entries ≡ w.basis.width

-- each new row is the one that its name says
pub record IsNamed (rows : List PrimeRow) (ms : List PrimeMatrix) (w : Spinning) : Type 0 where
  pub new_rows : drop w.older w.basis.added ≡ spun_rows w.basis.prime w.basis.width rows ms w.spun
  pub names : AreNames (length rows) (length ms) w.spun

abbrev pub no_spun : Spun
no_spun = record { row = 0; along = [] }

-- row x is added under the name s
pub record IsTaken (x : List ℕ) (s : Spun) (old new : Spinning) : Type 0 where
  pub added : new.basis.added ≡ old.basis.added ++ x ∷ []
  pub spun : new.spun ≡ old.spun ++ s ∷ []
  pub pivot : ℕ
  pub pivots : pivots_of new.basis.rows ≡ pivots_of old.basis.rows ++ pivot ∷ []

pub record IsLeftOut (old new : Spinning) : Type 0 where
  pub basis : new.basis ≡ old.basis
  pub spun : new.spun ≡ old.spun

-- row x is added under the name s, or it was in the span
pub record IsOffered (x : List ℕ) (s : Spun) (old new : Spinning) : Type 0 where
  pub ready : IsReady new
  pub older : new.older ≡ old.older
  pub prime : new.basis.prime ≡ old.basis.prime
  pub width : new.basis.width ≡ old.basis.width
  pub in_span : InSpan old.basis.prime old.basis.width new.basis.added x
  pub step : IsTaken x s old new ⊎ IsLeftOut old new

-- more rows after those there were
pub record HasGrown (old new : Spinning) : Type 0 where
  pub older : new.older ≡ old.older
  pub prime : new.basis.prime ≡ old.basis.prime
  pub width : new.basis.width ≡ old.basis.width
  pub more : List (List ℕ)
  pub added : new.basis.added ≡ old.basis.added ++ more
  pub pivots : List ℕ
  pub after : pivots_of new.basis.rows ≡ pivots_of old.basis.rows ++ pivots

-- each matrix takes the new row at a place into the span
abbrev pub ImagesInSpan : List PrimeMatrix → Spinning → ℕ → Type 0
ImagesInSpan ms w i = (e : ℕ) → e < length ms
    → InSpan w.basis.prime w.basis.width w.basis.added
    (times_matrix w.basis.prime w.basis.width (matrix_at ms (suc e)) (get_or w.basis.added (w.older + i) []))
