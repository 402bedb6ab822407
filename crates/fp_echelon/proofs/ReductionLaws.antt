-- The reduction of a row by a reduced basis is 0 at every pivot, and differs from the row by a row of the span.
use Rattle.std.proofs.Common.{◌≡◌, ◌↔◌, ℕ, zero, suc, ◌+◌, ◌*◌, ◌%◌, ◌-◌, ◌<◌, ◌≤◌, List, [], ◌∷◌, length, refl, ap, ap₂, sym, ◌∙◌, subst}
use Rattle.std.proofs.Common.{arith, mod-eq_of_lt}
use Rattle.std.proofs.Math.Nat.{add-mod-mod, mul-mod_right}
use Rattle.pq_base.specs.Table.{AllBelow}
use Rattle.pq_base.specs.Elementary.{zeros}
use Rattle.fp_rows.specs.Rows.{IsRow, add_rows, scale_row, add_scaled}
use Rattle.fp_rows.specs.Row.{at_column}
use Rattle.fp_rows.proofs.RowLaws.{IsRow-zeros, IsRow-scale_row, IsRow-add_scaled, scale_row-zero, zeros-add_rows}
use Rattle.fp_rows.proofs.EntryLaws.{get_or-add_scaled, at_column-zeros, at_column-below}
use Rattle.fp_rows.specs.Differences.{difference}
use Rattle.fp_echelon.specs.Span.{combine, AreRows, InSpan, EachInSpan}
use Rattle.fp_echelon.specs.Reduced.{BasisRow, rows_of, ZeroAt, ZeroAtPivots, IsPivotRow, AreApart, IsReduced, IsRepresentative}
use Rattle.fp_echelon.specs.Reduction.{negative, cleared, reduce_by}
use Rattle.fp_echelon.proofs.SpanLaws.{IsRow-combine, IsRow-InSpan, InSpan-zeros, InSpan-scale_row, InSpan-cons, InSpan-head}
use Rattle.fp_echelon.proofs.SpanLaws.{combine-scale_row}
use Rattle.fp_rows.proofs.DifferenceLaws.{IsRow-difference, add_rows-difference, equal_from_difference}
use Rattle.fp_echelon.proofs.SpanDifferences.{InSpan-self, InSpan-through, InSpan-turned, InSpan-shifted, InSpan-difference}

pub at_column-add_scaled : (p k : ℕ) (xs ys : List ℕ) (c : ℕ) → 0 < p → length xs ≡ length ys
    → at_column (add_scaled p k xs ys) c ≡ (at_column xs c + k * at_column ys c) % p
at_column-add_scaled p k xs ys c h e = get_or-add_scaled p k xs ys (c - 1) h e

pub negative_cancels : (p k : ℕ) → k < p → (k + negative p k) % p ≡ 0
negative_cancels p k h =
    let whole : k + (p - k) ≡ p * 1 = omega arith in
    add-mod-mod k (p - k) p ∙ ap (λ (n : ℕ). n % p) whole ∙ mul-mod_right p 1

pub negative-zero : (p : ℕ) → negative p 0 ≡ 0
negative-zero p = let whole : p - 0 ≡ p * 1 = omega arith in ap (λ (n : ℕ). n % p) whole ∙ mul-mod_right p 1

pub AreRows-reduced : (p width : ℕ) (bs : List BasisRow) → IsReduced p width bs → AreRows p width (rows_of bs)
AreRows-reduced p width [] reduced = tt
AreRows-reduced p width (b ∷ bs) reduced = (reduced.0.fits, AreRows-reduced p width bs reduced.2)

pub length-rows_of : (bs : List BasisRow) → length (rows_of bs) ≡ length bs
length-rows_of [] = refl
length-rows_of (b ∷ bs) = ap (λ (n : ℕ). suc n) (length-rows_of bs)

module _ (p width : ℕ) (some : 1 < p) where
  -- one column
  module _ (b x : List ℕ) (row : IsRow p width b) (row' : IsRow p width x) where
    same_length : length x ≡ length b
    same_length = row'.count ∙ sym row.count

    pub IsRow-cleared : (c : ℕ) → IsRow p width (cleared p c b x)
    IsRow-cleared c = IsRow-add_scaled p width (negative p (at_column x c)) x b (omega arith) row' row

    pub at_column-cleared : (c : ℕ) → at_column b c ≡ 1 → at_column (cleared p c b x) c ≡ 0
    at_column-cleared c one =
        let k = negative p (at_column x c) in
        let same : at_column x c + k * 1 ≡ at_column x c + k = omega arith in
        at_column-add_scaled p k x b c (omega arith) same_length
        ∙ ap (λ (n : ℕ). (at_column x c + k * n) % p) one
        ∙ ap (λ (n : ℕ). n % p) same
        ∙ negative_cancels p (at_column x c) (at_column-below p x c (omega arith) row'.below)

    pub at_column-cleared_other : (c d : ℕ) → at_column b d ≡ 0 → at_column (cleared p c b x) d ≡ at_column x d
    at_column-cleared_other c d none =
        let k = negative p (at_column x c) in
        let same : at_column x d + k * 0 ≡ at_column x d = omega arith in
        at_column-add_scaled p k x b d (omega arith) same_length
        ∙ ap (λ (n : ℕ). (at_column x d + k * n) % p) none
        ∙ ap (λ (n : ℕ). n % p) same
        ∙ mod-eq_of_lt (at_column-below p x d (omega arith) row'.below)

    pub InSpan-cleared : (c : ℕ) (rows : List (List ℕ)) → InSpan p width rows b → InSpan p width rows (difference p (cleared p c b x) x)
    InSpan-cleared c rows s =
        let k = negative p (at_column x c) in
        subst (λ (l : List ℕ). InSpan p width rows l)
        (sym (add_rows-difference p width some x (scale_row p k b) row' (IsRow-scale_row p width k b (omega arith) row)))
        (InSpan-scale_row p width k rows b (omega arith) s)

  -- every pivot
  pub IsRow-reduce_by : (bs : List BasisRow) (x : List ℕ) → AreRows p width (rows_of bs) → IsRow p width x
      → IsRow p width (reduce_by p bs x)
  IsRow-reduce_by [] x are row = row
  IsRow-reduce_by (b ∷ bs) x are row =
      IsRow-reduce_by bs (cleared p b.pivot b.row x) are.1 (IsRow-cleared b.row x are.0 row b.pivot)

  pub at_column-reduce_by : (bs : List BasisRow) (x : List ℕ) (d : ℕ) → AreRows p width (rows_of bs) → IsRow p width x → ZeroAt d bs
      → at_column (reduce_by p bs x) d ≡ at_column x d
  at_column-reduce_by [] x d are row none = refl
  at_column-reduce_by (b ∷ bs) x d are row none =
      at_column-reduce_by bs (cleared p b.pivot b.row x) d are.1 (IsRow-cleared b.row x are.0 row b.pivot) none.1
      ∙ at_column-cleared_other b.row x are.0 row b.pivot d none.0

  pub ZeroAtPivots-reduce_by : (bs : List BasisRow) (x : List ℕ) → IsReduced p width bs → IsRow p width x
      → ZeroAtPivots (reduce_by p bs x) bs
  ZeroAtPivots-reduce_by [] x reduced row = tt
  ZeroAtPivots-reduce_by (b ∷ bs) x reduced row =
      let row' = IsRow-cleared b.row x reduced.0.fits row b.pivot in (
        at_column-reduce_by bs (cleared p b.pivot b.row x) b.pivot (AreRows-reduced p width bs reduced.2) row' reduced.1.others
            ∙ at_column-cleared b.row x reduced.0.fits row b.pivot reduced.0.one,
        ZeroAtPivots-reduce_by bs (cleared p b.pivot b.row x) reduced.2 row',
      )

  pub InSpan-reduce_by : (bs : List BasisRow) (x : List ℕ) → AreRows p width (rows_of bs) → IsRow p width x
      → InSpan p width (rows_of bs) (difference p (reduce_by p bs x) x)
  InSpan-reduce_by [] x are row = InSpan-self p width some [] tt x row
  InSpan-reduce_by (b ∷ bs) x are row =
      let row' = IsRow-cleared b.row x are.0 row b.pivot in
      InSpan-through p width some (rows_of (b ∷ bs)) are (reduce_by p (b ∷ bs) x) (cleared p b.pivot b.row x) x
      (IsRow-reduce_by bs (cleared p b.pivot b.row x) are.1 row') row' row
      (InSpan-cons p width b.row (rows_of bs) (difference p (reduce_by p (b ∷ bs) x) (cleared p b.pivot b.row x)) (omega arith) are.0 are.1
      (InSpan-reduce_by bs (cleared p b.pivot b.row x) are.1 row'))
      (InSpan-cleared b.row x are.0 row b.pivot (rows_of (b ∷ bs)) (InSpan-head p width b.row (rows_of bs) some are.0 are.1))

  pub IsRepresentative-reduce_by : (bs : List BasisRow) (x : List ℕ) → IsReduced p width bs → IsRow p width x
      → IsRepresentative p width bs x (reduce_by p bs x)
  IsRepresentative-reduce_by bs x reduced row = record {
    fits = IsRow-reduce_by bs x (AreRows-reduced p width bs reduced) row;
    zero = ZeroAtPivots-reduce_by bs x reduced row;
    span = InSpan-reduce_by bs x (AreRows-reduced p width bs reduced) row;
  }
