-- The entries of sums and multiples of rows, place by place and column by column.
use Rattle.std.proofs.Common.{◌≡◌, ℕ, zero, suc, ◌+◌, ◌-◌, ◌*◌, ◌%◌, ◌<◌, List, [], ◌∷◌, length, get_or, refl, ap, ap₂, sym, ◌∙◌, arith}
use Rattle.std.proofs.Common.{mod-eq_of_lt}
use Rattle.std.proofs.Math.Nat.{mul-zero, add-mod-mod}
use Rattle.pq_base.specs.Table.{AllBelow}
use Rattle.pq_base.specs.Elementary.{zeros}
use Rattle.pq_base.proofs.UnitLaws.{get_or-zeros}
use Rattle.pq_base.proofs.tables.TableLaws.{get_or-below}
use Rattle.fp_rows.specs.Rows.{add_rows, scale_row, add_scaled}
use Rattle.fp_rows.specs.Row.{at_column, IsZeroRow}
use Rattle.fp_rows.proofs.RowLaws.{length-scale_row}

pub get_or-add_rows : (p : ℕ) (xs ys : List ℕ) (i : ℕ) → 0 < p → length xs ≡ length ys
    → get_or (add_rows p xs ys) i 0 ≡ (get_or xs i 0 + get_or ys i 0) % p
get_or-add_rows p [] [] i h e = sym (mod-eq_of_lt h)
get_or-add_rows p [] (y ∷ ys) i h e = absurd (omega arith)
get_or-add_rows p (x ∷ xs) [] i h e = absurd (omega arith)
get_or-add_rows p (x ∷ xs) (y ∷ ys) zero h e = refl
get_or-add_rows p (x ∷ xs) (y ∷ ys) (suc i) h e = get_or-add_rows p xs ys i h (omega arith)

pub get_or-scale_row : (p k : ℕ) (xs : List ℕ) (i : ℕ) → 0 < p → get_or (scale_row p k xs) i 0 ≡ (k * get_or xs i 0) % p
get_or-scale_row p k [] i h = sym (ap (λ (n : ℕ). n % p) (mul-zero k) ∙ mod-eq_of_lt h)
get_or-scale_row p k (x ∷ xs) zero h = refl
get_or-scale_row p k (x ∷ xs) (suc i) h = get_or-scale_row p k xs i h

pub get_or-add_scaled : (p k : ℕ) (xs ys : List ℕ) (i : ℕ) → 0 < p → length xs ≡ length ys
    → get_or (add_scaled p k xs ys) i 0 ≡ (get_or xs i 0 + k * get_or ys i 0) % p
get_or-add_scaled p k xs ys i h e =
    get_or-add_rows p xs (scale_row p k ys) i h (e ∙ sym (length-scale_row p k ys))
    ∙ ap (λ (n : ℕ). (get_or xs i 0 + n) % p) (get_or-scale_row p k ys i h)
    ∙ add-mod-mod (get_or xs i 0) (k * get_or ys i 0) p

-- columns
pub at_column-zeros : (n c : ℕ) → at_column (zeros n) c ≡ 0
at_column-zeros n c = get_or-zeros n (c - 1)

pub at_column-below : (p : ℕ) (xs : List ℕ) (c : ℕ) → 0 < p → AllBelow p xs → at_column xs c < p
at_column-below p xs c h below = get_or-below p xs (c - 1) h below

-- zero rows
pub IsZeroRow-is_zeros : (xs : List ℕ) → IsZeroRow xs → xs ≡ zeros (length xs)
IsZeroRow-is_zeros [] h = refl
IsZeroRow-is_zeros (x ∷ xs) h = ap₂ (λ (n : ℕ) (l : List ℕ). n ∷ l) h.0 (IsZeroRow-is_zeros xs h.1)

pub zeros-IsZeroRow : (n : ℕ) → IsZeroRow (zeros n)
zeros-IsZeroRow zero = tt
zeros-IsZeroRow (suc n) = (refl, zeros-IsZeroRow n)

-- a row all of whose entries are 0
pub IsZeroRow-from_entries : (xs : List ℕ) → ((i : ℕ) → i < length xs → get_or xs i 0 ≡ 0) → IsZeroRow xs
IsZeroRow-from_entries [] h = tt
IsZeroRow-from_entries (x ∷ xs) h = (h 0 (omega arith), IsZeroRow-from_entries xs (λ i l. h (suc i) (omega arith)))
