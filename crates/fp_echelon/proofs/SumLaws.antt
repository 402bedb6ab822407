-- Each step of an insertion keeps that a row of the basis is the sum of the added rows that its coefficients say.
use Rattle.std.proofs.Common.{◌≡◌, ℕ, zero, suc, ◌+◌, ◌*◌, ◌-◌, ◌<◌, ◌≤◌, List, [], ◌∷◌, ◌++◌, length, refl, ap, ap₂, sym, ◌∙◌, subst}
use Rattle.std.proofs.Common.{arith, length-append}
use Rattle.pq_base.specs.Table.{AllBelow}
use Rattle.pq_base.specs.Elementary.{zeros}
use Rattle.fp_rows.specs.Rows.{IsRow, add_rows, scale_row, add_scaled}
use Rattle.fp_rows.specs.Row.{at_column}
use Rattle.fp_rows.proofs.RowLaws.{IsRow-zeros, IsRow-scale_row, IsRow-add_scaled, length-scale_row, scale_row-zero, scale_row-one}
use Rattle.fp_rows.proofs.RowLaws.{zeros-add_rows, add_rows_comm}
use Rattle.fp_echelon.specs.Span.{combine, AreRows, InSpan, EachInSpan}
use Rattle.fp_echelon.specs.Reduced.{BasisRow, rows_of}
use Rattle.fp_echelon.specs.Reduction.{negative, cleared, reduce_by}
use Rattle.fp_echelon.proofs.InsertionSteps.{started, extended, clear_by, clear_by_each, clear_each, scaled, new_row, inserted}
use Rattle.fp_echelon.specs.Basis.{IsSum, AreSums}
use Rattle.fp_echelon.proofs.SpanLaws.{IsRow-combine, combine-add_rows, combine-scale_row, combine-zeros, combine-push}

-- rows alone
pub rows_of-extended : (bs : List BasisRow) → rows_of (extended bs) ≡ rows_of bs
rows_of-extended [] = refl
rows_of-extended (b ∷ bs) = ap (λ (l : List (List ℕ)). b.row ∷ l) (rows_of-extended bs)

pub row-clear_by_each : (p : ℕ) (bs : List BasisRow) (b : BasisRow) → (clear_by_each p bs b).row ≡ reduce_by p bs b.row
row-clear_by_each p [] b = refl
row-clear_by_each p (a ∷ bs) b = row-clear_by_each p bs (clear_by p a b)

pub reduce_by-extended : (p : ℕ) (bs : List BasisRow) (x : List ℕ) → reduce_by p (extended bs) x ≡ reduce_by p bs x
reduce_by-extended p [] x = refl
reduce_by-extended p (b ∷ bs) x = reduce_by-extended p bs (cleared p b.pivot b.row x)

-- the new row is k times the reduction of x
pub row-new_row : (p c k : ℕ) (x : List ℕ) (n : ℕ) (bs : List BasisRow) → (new_row p c k x n bs).row ≡ scale_row p k (reduce_by p bs x)
row-new_row p c k x n bs =
    ap (scale_row p k) (row-clear_by_each p (extended bs) (started x n) ∙ reduce_by-extended p bs x)

AllBelow-push : (p : ℕ) (xs : List ℕ) (y : ℕ) → AllBelow p xs → y < p → AllBelow p (xs ++ y ∷ [])
AllBelow-push p [] y below h = (h, tt)
AllBelow-push p (x ∷ xs) y below h = (below.0, AllBelow-push p xs y below.1 h)

IsRow-push : (p n : ℕ) (xs : List ℕ) (y : ℕ) → IsRow p n xs → y < p → IsRow p (suc n) (xs ++ y ∷ [])
IsRow-push p n xs y row h =
    let long = row.count in
    record { count = omega (arith, length-append xs (y ∷ [])); below = AllBelow-push p xs y row.below h }

length_push_row : (rows : List (List ℕ)) (x : List ℕ) → suc (length rows) ≡ length (rows ++ x ∷ [])
length_push_row rows x = omega (arith, length-append rows (x ∷ []))

module _ (p width : ℕ) (some : 1 < p) where
  module _ (added : List (List ℕ)) (are : AreRows p width added) where
    pub IsSum-clear_by : (a b : BasisRow) → IsSum p width added a → IsSum p width added b → IsSum p width added (clear_by p a b)
    IsSum-clear_by a b s t =
        let k = negative p (at_column b.row a.pivot) in
        record {
          fits = IsRow-add_scaled p (length added) k b.coefficients a.coefficients (omega arith) t.fits s.fits;
          sum =
              combine-add_rows p width b.coefficients (scale_row p k a.coefficients) added (omega arith)
              (t.fits.count ∙ sym s.fits.count ∙ sym (length-scale_row p k a.coefficients))
              ∙ ap₂ (add_rows p) t.sum (combine-scale_row p width k a.coefficients added (omega arith) ∙ ap (scale_row p k) s.sum);
        }

    pub IsSum-scaled : (c k : ℕ) (b : BasisRow) → IsSum p width added b → IsSum p width added (scaled p c k b)
    IsSum-scaled c k b s = record {
      fits = IsRow-scale_row p (length added) k b.coefficients (omega arith) s.fits;
      sum = combine-scale_row p width k b.coefficients added (omega arith) ∙ ap (scale_row p k) s.sum;
    }

    pub IsSum-clear_by_each : (bs : List BasisRow) (b : BasisRow) → AreSums p width added bs → IsSum p width added b
        → IsSum p width added (clear_by_each p bs b)
    IsSum-clear_by_each [] b sums s = s
    IsSum-clear_by_each (a ∷ bs) b sums s = IsSum-clear_by_each bs (clear_by p a b) sums.1 (IsSum-clear_by a b sums.0 s)

    pub AreSums-clear_each : (a : BasisRow) (bs : List BasisRow) → IsSum p width added a → AreSums p width added bs
        → AreSums p width added (clear_each p a bs)
    AreSums-clear_each a [] s sums = tt
    AreSums-clear_each a (b ∷ bs) s sums = (IsSum-clear_by a b s sums.0, AreSums-clear_each a bs s sums.1)

    pub AreSums-push : (bs : List BasisRow) (b : BasisRow) → AreSums p width added bs → IsSum p width added b
        → AreSums p width added (bs ++ b ∷ [])
    AreSums-push [] b sums s = (s, tt)
    AreSums-push (a ∷ bs) b sums s = (sums.0, AreSums-push bs b sums.1 s)

    -- one more added row
    module _ (x : List ℕ) (row : IsRow p width x) where
      pub AreSums-extended : (bs : List BasisRow) → AreSums p width added bs → AreSums p width (added ++ x ∷ []) (extended bs)
      AreSums-extended [] sums = tt
      AreSums-extended (b ∷ bs) sums =
          let s = sums.0 in (
            record {
              fits = subst (λ (n : ℕ). IsRow p n (b.coefficients ++ 0 ∷ [])) (length_push_row added x)
                  (IsRow-push p (length added) b.coefficients 0 s.fits (omega arith));
              sum =
                  combine-push p width 0 b.coefficients x added (omega arith) s.fits.count row are
                  ∙ ap (add_rows p (combine p width b.coefficients added)) (scale_row-zero p x (omega arith) ∙ ap zeros row.count)
                  ∙ add_rows_comm p (combine p width b.coefficients added) (zeros width)
                  ∙ zeros-add_rows p width (combine p width b.coefficients added)
                  (IsRow-combine p width b.coefficients added (omega arith) are)
                  ∙ s.sum;
            },
            AreSums-extended bs sums.1,
          )

      pub IsSum-started : IsSum p width (added ++ x ∷ []) (started x (length added))
      IsSum-started =
          let none = IsRow-zeros p (length added) (omega arith) in
          record {
            fits = subst (λ (n : ℕ). IsRow p n (zeros (length added) ++ 1 ∷ [])) (length_push_row added x)
                (IsRow-push p (length added) (zeros (length added)) 1 none some);
            sum =
                combine-push p width 1 (zeros (length added)) x added (omega arith) none.count row are
                ∙ ap₂ (add_rows p) (combine-zeros p width (length added) added (omega arith) are) (scale_row-one p x row.below)
                ∙ zeros-add_rows p width x row;
          }

  -- the rows of the basis after an insertion are the sums that their coefficients say
  module _ (added : List (List ℕ)) (x : List ℕ) (are : AreRows p width added) (more : AreRows p width (added ++ x ∷ []))
      (row : IsRow p width x)
      (c k : ℕ) (bs : List BasisRow) (sums : AreSums p width added bs) where
    pub IsSum-new_row : IsSum p width (added ++ x ∷ []) (new_row p c k x (length added) bs)
    IsSum-new_row =
        IsSum-scaled (added ++ x ∷ []) more c k (clear_by_each p (extended bs) (started x (length added)))
        (IsSum-clear_by_each (added ++ x ∷ []) more (extended bs) (started x (length added))
        (AreSums-extended added are x row bs sums) (IsSum-started added are x row))

    pub AreSums-inserted : AreSums p width (added ++ x ∷ []) (inserted p c k x (length added) bs)
    AreSums-inserted =
        AreSums-push (added ++ x ∷ []) more (clear_each p (new_row p c k x (length added) bs) (extended bs))
        (new_row p c k x (length added) bs)
        (AreSums-clear_each (added ++ x ∷ []) more (new_row p c k x (length added) bs) (extended bs) IsSum-new_row
        (AreSums-extended added are x row bs sums)) IsSum-new_row
