-- Lists of rows that are made place by place.
use Rattle.std.proofs.Common.{◌≡◌, ℕ, zero, suc, ◌<◌, List, [], ◌∷◌, get_or, length, refl, ap, arith}
use Rattle.fp_rows.specs.Rows.{IsRow}
use Rattle.fp_echelon.specs.Span.{AreRows}

-- n rows, each with the property of its place
pub record HasRows (n : ℕ) (P : ℕ → List ℕ → Type 0) : Type 0 where
  pub rows : List (List ℕ)
  pub count : length rows ≡ n
  pub each : (t : ℕ) → t < n → P t (get_or rows t [])

pub rows-by_place : (n : ℕ) (P : ℕ → List ℕ → Type 0) → ((t : ℕ) → t < n → (x : List ℕ) × P t x) → HasRows n P
rows-by_place zero P make = record { rows = []; count = refl; each = λ t l. absurd (omega arith) }
rows-by_place (suc n) P make =
    let first = make 0 (omega arith) in
    let later : HasRows n (λ t. P (suc t)) = rows-by_place n (λ t. P (suc t)) (λ t l. make (suc t) (omega arith)) in
    record { rows = first.0 ∷ later.rows; count = ap suc later.count; each = at first.0 first.1 later }
  where
    at : (x : List ℕ) → P 0 x → (later : HasRows n (λ t. P (suc t))) → (t : ℕ) → t < suc n → P t (get_or (x ∷ later.rows) t [])
    at x h later zero l = h
    at x h later (suc t) l = later.each t (omega arith)

pub AreRows-from_entries : (p width : ℕ) (rows : List (List ℕ))
    → ((t : ℕ) → t < length rows → IsRow p width (get_or rows t [])) → AreRows p width rows
AreRows-from_entries p width [] h = tt
AreRows-from_entries p width (x ∷ rows) h =
    (h 0 (omega arith), AreRows-from_entries p width rows (λ t l. h (suc t) (omega arith)))
