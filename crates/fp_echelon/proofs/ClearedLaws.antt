-- A reduced basis stays reduced when a row that is 0 at its pivots, and has 1 at its own last nonzero column, clears that
-- column in each row and joins it.
use Rattle.std.proofs.Common.{◌≡◌, ◌≢◌, ℕ, zero, suc, ◌+◌, ◌*◌, ◌%◌, ◌-◌, ◌<◌, ◌≤◌, List, [], ◌∷◌, ◌++◌, length, refl, ap, ap₂, sym, ◌∙◌}
use Rattle.std.proofs.Common.{subst, arith, mod-eq_of_lt, ⊎_elim, mul_comm}
use Rattle.std.proofs.Math.Nat.{mul-mod_right, mul-zero, zero-mul}
use Rattle.std.proofs.lemmas.Bool.{cases_lt}
use Rattle.fp_rows.specs.Rows.{IsRow, scale_row, add_scaled}
use Rattle.fp_rows.specs.Row.{at_column, IsColumn, IsLastNonzero}
use Rattle.fp_rows.proofs.RowLaws.{IsRow-scale_row, length-scale_row}
use Rattle.fp_rows.proofs.EntryLaws.{get_or-scale_row}
use Rattle.fp_echelon.specs.Reduced.{BasisRow, rows_of, ZeroAt, ZeroAtPivots, IsPivotRow, AreApart, IsReduced}
use Rattle.fp_echelon.specs.Reduction.{negative, cleared}
use Rattle.fp_echelon.proofs.InsertionSteps.{clear_by, clear_each, scaled}
use Rattle.fp_echelon.proofs.ReductionLaws.{negative-zero, at_column-add_scaled, at_column-cleared, at_column-cleared_other, IsRow-cleared}

module _ (p width : ℕ) (some : 1 < p) where
  -- a multiple of a row that has 1 at the last nonzero column
  pub IsPivotRow-scaled : (c k : ℕ) (b : BasisRow) → IsRow p width b.row → IsLastNonzero b.row c → (at_column b.row c * k) % p ≡ 1
      → IsPivotRow p width (scaled p c k b)
  IsPivotRow-scaled c k b row last one =
      let entry : (d : ℕ) → at_column (scale_row p k b.row) d ≡ (k * at_column b.row d) % p =
      λ d. get_or-scale_row p k b.row (d - 1) (omega arith) in
      let one' : at_column (scale_row p k b.row) c ≡ 1 =
      entry c ∙ ap (λ (n : ℕ). n % p) (mul_comm k (at_column b.row c)) ∙ one in
      let long = length-scale_row p k b.row in
      let at_least = last.column.first in
      let at_most = last.column.last in
      record {
        fits = IsRow-scale_row p width k b.row (omega arith) row;
        last = record {
          column = record { first = at_least; last = omega arith };
          nonzero = λ none. omega arith;
          zero_after = λ d after.
              entry d
              ∙ ap (λ (n : ℕ). (k * n) % p) (last.zero_after d after)
              ∙ ap (λ (n : ℕ). n % p) (mul-zero k)
              ∙ mod-eq_of_lt (omega arith);
        };
        one = one';
      }

  pub ZeroAtPivots-scale_row : (k : ℕ) (x : List ℕ) (bs : List BasisRow) → ZeroAtPivots x bs → ZeroAtPivots (scale_row p k x) bs
  ZeroAtPivots-scale_row k x [] none = tt
  ZeroAtPivots-scale_row k x (b ∷ bs) none = (
    get_or-scale_row p k x (b.pivot - 1) (omega arith)
        ∙ ap (λ (n : ℕ). (k * n) % p) none.0
        ∙ ap (λ (n : ℕ). n % p) (mul-zero k)
        ∙ mod-eq_of_lt (omega arith),
    ZeroAtPivots-scale_row k x bs none.1,
  )

  -- a row a that is 0 at b's pivot clears its own pivot's column in b
  module _ (a b : BasisRow) (pivot : IsPivotRow p width a) (pivot' : IsPivotRow p width b) (apart : at_column a.row b.pivot ≡ 0) where
    clear_by_after : (d : ℕ) → b.pivot < d → at_column (clear_by p a b).row d ≡ 0
    clear_by_after d after =
        let k = negative p (at_column b.row a.pivot) in
        let product : k * at_column a.row d ≡ 0 =
        ⊎_elim (λ before. ap (λ (n : ℕ). k * n) (pivot.last.zero_after d before) ∙ mul-zero k)
        (λ before.
        ap (λ (n : ℕ). negative p n * at_column a.row d) (pivot'.last.zero_after a.pivot (omega arith))
        ∙ ap (λ (n : ℕ). n * at_column a.row d) (negative-zero p)
        ∙ zero-mul (at_column a.row d)) (cases_lt a.pivot d) in
        at_column-add_scaled p k b.row a.row d (omega arith) (pivot'.fits.count ∙ sym pivot.fits.count)
        ∙ ap₂ (λ (m n : ℕ). (m + n) % p) (pivot'.last.zero_after d after) product
        ∙ mod-eq_of_lt (omega arith)

    pub IsPivotRow-clear_by : IsPivotRow p width (clear_by p a b)
    IsPivotRow-clear_by =
        let row = IsRow-cleared p width some a.row b.row pivot.fits pivot'.fits a.pivot in
        let one = at_column-cleared_other p width some a.row b.row pivot.fits pivot'.fits a.pivot b.pivot apart ∙ pivot'.one in
        let at_least = pivot'.last.column.first in
        let at_most = pivot'.last.column.last in
        let long = row.count in
        let long' = pivot'.fits.count in
        record {
          fits = row;
          last = record {
            column = record { first = at_least; last = omega arith };
            nonzero = λ none. omega arith;
            zero_after = clear_by_after;
          };
          one = one;
        }

  module _ (a : BasisRow) (pivot : IsPivotRow p width a) where
    -- the column of a's pivot becomes 0, and other columns that are 0 in a stay
    pub ZeroAt-clear_each : (bs : List BasisRow) → IsReduced p width bs → ZeroAt a.pivot (clear_each p a bs)
    ZeroAt-clear_each [] reduced = tt
    ZeroAt-clear_each (b ∷ bs) reduced =
        (at_column-cleared p width some a.row b.row pivot.fits reduced.0.fits a.pivot pivot.one, ZeroAt-clear_each bs reduced.2)

    ZeroAt-clear_each_other : (bs : List BasisRow) (c : ℕ) → IsReduced p width bs → at_column a.row c ≡ 0 → ZeroAt c bs
        → ZeroAt c (clear_each p a bs)
    ZeroAt-clear_each_other [] c reduced none here = tt
    ZeroAt-clear_each_other (b ∷ bs) c reduced none here = (
      at_column-cleared_other p width some a.row b.row pivot.fits reduced.0.fits a.pivot c none ∙ here.0,
      ZeroAt-clear_each_other bs c reduced.2 none here.1,
    )

    ZeroAtPivots-clear_by : (b : BasisRow) (bs : List BasisRow) → IsPivotRow p width b → ZeroAtPivots a.row bs → ZeroAtPivots b.row bs
        → ZeroAtPivots (clear_by p a b).row (clear_each p a bs)
    ZeroAtPivots-clear_by b [] pivot' none here = tt
    ZeroAtPivots-clear_by b (c ∷ bs) pivot' none here = (
      at_column-cleared_other p width some a.row b.row pivot.fits pivot'.fits a.pivot c.pivot none.0 ∙ here.0,
      ZeroAtPivots-clear_by b bs pivot' none.1 here.1,
    )

    pub ZeroAtPivots-clear_each : (x : List ℕ) (bs : List BasisRow) → ZeroAtPivots x bs → ZeroAtPivots x (clear_each p a bs)
    ZeroAtPivots-clear_each x [] none = tt
    ZeroAtPivots-clear_each x (b ∷ bs) none = (none.0, ZeroAtPivots-clear_each x bs none.1)

    pub IsReduced-clear_each : (bs : List BasisRow) → IsReduced p width bs → ZeroAtPivots a.row bs → IsReduced p width (clear_each p a bs)
    IsReduced-clear_each [] reduced none = tt
    IsReduced-clear_each (b ∷ bs) reduced none = (
      IsPivotRow-clear_by a b pivot reduced.0 none.0,
      record {
        others = ZeroAt-clear_each_other bs b.pivot reduced.2 none.0 reduced.1.others;
        own = ZeroAtPivots-clear_by b bs reduced.0 none.1 reduced.1.own;
      },
      IsReduced-clear_each bs reduced.2 none.1,
    )

  ZeroAt-push : (c : ℕ) (bs : List BasisRow) (a : BasisRow) → ZeroAt c bs → at_column a.row c ≡ 0 → ZeroAt c (bs ++ a ∷ [])
  ZeroAt-push c [] a none here = (here, tt)
  ZeroAt-push c (b ∷ bs) a none here = (none.0, ZeroAt-push c bs a none.1 here)

  ZeroAtPivots-push : (x : List ℕ) (bs : List BasisRow) (a : BasisRow) → ZeroAtPivots x bs → at_column x a.pivot ≡ 0
      → ZeroAtPivots x (bs ++ a ∷ [])
  ZeroAtPivots-push x [] a none here = (here, tt)
  ZeroAtPivots-push x (b ∷ bs) a none here = (none.0, ZeroAtPivots-push x bs a none.1 here)

  pub IsReduced-push : (bs : List BasisRow) (a : BasisRow) → IsReduced p width bs → IsPivotRow p width a → ZeroAt a.pivot bs
      → ZeroAtPivots a.row bs → IsReduced p width (bs ++ a ∷ [])
  IsReduced-push [] a reduced pivot here none = (pivot, record { others = tt; own = tt }, tt)
  IsReduced-push (b ∷ bs) a reduced pivot here none = (
    reduced.0,
    record {
      others = ZeroAt-push b.pivot bs a reduced.1.others none.0;
      own = ZeroAtPivots-push b.row bs a reduced.1.own here.0;
    },
    IsReduced-push bs a reduced.2 pivot here.1 none.1,
  )
