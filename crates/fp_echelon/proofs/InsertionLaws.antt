-- After the insertion of a row that is not in the span, the rows are a reduced basis of the span of all added rows, this
-- one too.
use Rattle.std.proofs.Common.{◌≡◌, ◌≢◌, ◌↔◌, ℕ, zero, suc, ◌+◌, ◌*◌, ◌%◌, ◌-◌, ◌<◌, ◌≤◌, List, [], ◌∷◌, ◌++◌, length, refl, ap, ap₂, sym}
use Rattle.std.proofs.Common.{◌∙◌, subst, arith, length-append, inl, inr}
use Rattle.fp_rows.specs.Rows.{IsRow, add_rows, scale_row, add_scaled}
use Rattle.fp_rows.specs.Row.{at_column, IsLastNonzero}
use Rattle.fp_rows.proofs.RowLaws.{scale_row-scale_row, scale_row-mod, scale_row-one}
use Rattle.fp_rows.proofs.EntryLaws.{at_column-zeros}
use Rattle.pq_base.specs.Elementary.{zeros}
use Rattle.fp_rows.specs.Differences.{difference}
use Rattle.fp_echelon.specs.Span.{AreRows, InSpan, EachInSpan}
use Rattle.fp_echelon.specs.Reduced.{BasisRow, rows_of, pivots_of, IsPivot, ZeroAt, ZeroAtPivots, IsPivotRow, AreApart, IsReduced}
use Rattle.fp_echelon.specs.Reduced.{IsRepresentative}
use Rattle.fp_echelon.specs.Reduction.{cleared, reduce_by}
use Rattle.fp_echelon.proofs.InsertionSteps.{started, extended, clear_by, clear_by_each, clear_each, scaled, new_row, inserted}
use Rattle.fp_echelon.specs.Basis.{Echelon, IsBasis}
use Rattle.fp_echelon.proofs.SpanLaws.{IsRow-InSpan, InSpan-scale_row, InSpan-trans, EachInSpan-own, EachInSpan-trans, EachInSpan-push}
use Rattle.fp_echelon.proofs.SpanLaws.{AreRows-push, InSpan-last, EachInSpan-front}
use Rattle.fp_echelon.proofs.SpanDifferences.{InSpan-turned, InSpan-shifted}
use Rattle.fp_echelon.proofs.ReductionLaws.{AreRows-reduced, length-rows_of, InSpan-cleared, IsRepresentative-reduce_by, IsRow-cleared}
use Rattle.fp_echelon.proofs.PivotLaws.{representative-zero, InSpan-from_representative}
use Rattle.fp_echelon.proofs.SumLaws.{rows_of-extended, row-new_row, row-clear_by_each, reduce_by-extended}
use Rattle.fp_echelon.proofs.ClearedLaws.{IsPivotRow-scaled, ZeroAtPivots-scale_row, ZeroAt-clear_each, ZeroAtPivots-clear_each}
use Rattle.fp_echelon.proofs.ClearedLaws.{IsReduced-clear_each, IsReduced-push}

rows_of-push : (bs : List BasisRow) (a : BasisRow) → rows_of (bs ++ a ∷ []) ≡ rows_of bs ++ a.row ∷ []
rows_of-push [] a = refl
rows_of-push (b ∷ bs) a = ap (λ (l : List (List ℕ)). b.row ∷ l) (rows_of-push bs a)

pivots_of-clear_each : (p : ℕ) (a : BasisRow) (bs : List BasisRow) → pivots_of (clear_each p a bs) ≡ pivots_of bs
pivots_of-clear_each p a [] = refl
pivots_of-clear_each p a (b ∷ bs) = ap (λ (l : List ℕ). b.pivot ∷ l) (pivots_of-clear_each p a bs)

pivots_of-push : (bs : List BasisRow) (a : BasisRow) → pivots_of (bs ++ a ∷ []) ≡ pivots_of bs ++ a.pivot ∷ []
pivots_of-push [] a = refl
pivots_of-push (b ∷ bs) a = ap (λ (l : List ℕ). b.pivot ∷ l) (pivots_of-push bs a)

pivots_of-extended : (bs : List BasisRow) → pivots_of (extended bs) ≡ pivots_of bs
pivots_of-extended [] = refl
pivots_of-extended (b ∷ bs) = ap (λ (l : List ℕ). b.pivot ∷ l) (pivots_of-extended bs)

-- the new pivot comes last
pub pivots_of-inserted : (p c k : ℕ) (x : List ℕ) (n : ℕ) (bs : List BasisRow) → pivots_of (inserted p c k x n bs) ≡ pivots_of bs ++ c ∷ []
pivots_of-inserted p c k x n bs =
    let a = new_row p c k x n bs in
    pivots_of-push (clear_each p a (extended bs)) a
    ∙ ap (λ (l : List ℕ). l ++ c ∷ []) (pivots_of-clear_each p a (extended bs) ∙ pivots_of-extended bs)

pub length-pivots_of : (bs : List BasisRow) → length (pivots_of bs) ≡ length bs
length-pivots_of [] = refl
length-pivots_of (b ∷ bs) = ap (λ (n : ℕ). suc n) (length-pivots_of bs)

pub length-inserted : (p c k : ℕ) (x : List ℕ) (n : ℕ) (bs : List BasisRow) → length (inserted p c k x n bs) ≡ suc (length bs)
length-inserted p c k x n bs =
    let same = ap (λ (l : List ℕ). length l) (pivots_of-inserted p c k x n bs) in
    omega (arith, same, length-pivots_of (inserted p c k x n bs), length-pivots_of bs, length-append (pivots_of bs) (c ∷ []))

-- a column that isn't 0 in a row that is 0 at every pivot is no pivot
pub not_pivot : (c : ℕ) (x : List ℕ) (bs : List BasisRow) → at_column x c ≢ 0 → ZeroAtPivots x bs → IsPivot c bs → ⊥
not_pivot c x [] nonzero none h = elim h [ ]
not_pivot c x (b ∷ bs) nonzero none (inl e) = nonzero (subst (λ (d : ℕ). at_column x d ≡ 0) e none.0)
not_pivot c x (b ∷ bs) nonzero none (inr more) = not_pivot c x bs nonzero none.1 more

ZeroAt-extended : (c : ℕ) (bs : List BasisRow) → ZeroAt c bs → ZeroAt c (extended bs)
ZeroAt-extended c [] none = tt
ZeroAt-extended c (b ∷ bs) none = (none.0, ZeroAt-extended c bs none.1)

ZeroAtPivots-extended : (x : List ℕ) (bs : List BasisRow) → ZeroAtPivots x bs → ZeroAtPivots x (extended bs)
ZeroAtPivots-extended x [] none = tt
ZeroAtPivots-extended x (b ∷ bs) none = (none.0, ZeroAtPivots-extended x bs none.1)

IsReduced-extended : (p width : ℕ) (bs : List BasisRow) → IsReduced p width bs → IsReduced p width (extended bs)
IsReduced-extended p width [] reduced = tt
IsReduced-extended p width (b ∷ bs) reduced =
    let here = reduced.0 in (
      record { fits = here.fits; last = here.last; one = here.one },
      record { others = ZeroAt-extended b.pivot bs reduced.1.others; own = ZeroAtPivots-extended b.row bs reduced.1.own },
      IsReduced-extended p width bs reduced.2,
    )

module _ (p width : ℕ) (some : 1 < p) where
  -- rows from which a row of the span was taken away are in the span
  uncleared : (R : List (List ℕ)) (a : BasisRow) (bs : List BasisRow) → AreRows p width R → IsRow p width a.row → IsReduced p width bs
      → InSpan p width R a.row → EachInSpan p width R (rows_of (clear_each p a bs)) → EachInSpan p width R (rows_of bs)
  uncleared R a [] are row reduced s each = tt
  uncleared R a (b ∷ bs) are row reduced s each =
      let row' = IsRow-cleared p width some a.row b.row row reduced.0.fits a.pivot in (
        InSpan-shifted p width some R are b.row (clear_by p a b).row reduced.0.fits row'
            (InSpan-turned p width some R are (clear_by p a b).row b.row row' reduced.0.fits
            (InSpan-cleared p width some a.row b.row row reduced.0.fits a.pivot R s)) each.0,
        uncleared R a bs are row reduced.2 s each.1,
      )

  module _ (bs : List BasisRow) (x : List ℕ) (n c k : ℕ) (reduced : IsReduced p width bs) (row : IsRow p width x)
      (last : IsLastNonzero (reduce_by p bs x) c) (one : (at_column (reduce_by p bs x) c * k) % p ≡ 1) where
    abbrev reduction : List ℕ
    reduction = reduce_by p bs x

    abbrev before : BasisRow
    before = clear_by_each p (extended bs) (started x n)

    abbrev joined : BasisRow
    joined = new_row p c k x n bs

    abbrev after : List BasisRow
    after = inserted p c k x n bs

    representative : IsRepresentative p width bs x reduction
    representative = IsRepresentative-reduce_by p width some bs x reduced row

    row-before : reduction ≡ before.row
    row-before = sym (row-clear_by_each p (extended bs) (started x n) ∙ reduce_by-extended p bs x)

    joined_pivot : IsPivotRow p width joined
    joined_pivot =
        IsPivotRow-scaled p width some c k before
        (subst (λ (l : List ℕ). IsRow p width l) row-before representative.fits)
        (subst (λ (l : List ℕ). IsLastNonzero l c) row-before last)
        (subst (λ (l : List ℕ). (at_column l c * k) % p ≡ 1) row-before one)

    joined_zero : ZeroAtPivots joined.row (extended bs)
    joined_zero =
        ZeroAtPivots-scale_row p width some k before.row (extended bs)
        (subst (λ (l : List ℕ). ZeroAtPivots l (extended bs)) row-before (ZeroAtPivots-extended reduction bs representative.zero))

    pub IsReduced-inserted : IsReduced p width after
    IsReduced-inserted =
        let reduced' = IsReduced-extended p width bs reduced in
        IsReduced-push p width some (clear_each p joined (extended bs)) joined
        (IsReduced-clear_each p width some joined joined_pivot (extended bs) reduced' joined_zero) joined_pivot
        (ZeroAt-clear_each p width some joined joined_pivot (extended bs) reduced')
        (ZeroAtPivots-clear_each p width some joined joined_pivot joined.row (extended bs) joined_zero)

    are_after : AreRows p width (rows_of after)
    are_after = AreRows-reduced p width after IsReduced-inserted

    -- the rows of the new basis, the new row apart
    halves : rows_of after ≡ rows_of (clear_each p joined (extended bs)) ++ joined.row ∷ []
    halves = rows_of-push (clear_each p joined (extended bs)) joined

    are_halves : AreRows p width (rows_of (clear_each p joined (extended bs)))
    are_halves =
        AreRows-reduced p width (clear_each p joined (extended bs))
        (IsReduced-clear_each p width some joined joined_pivot (extended bs) (IsReduced-extended p width bs reduced) joined_zero)

    new_in_span : InSpan p width (rows_of after) joined.row
    new_in_span =
        subst (λ (l : List (List ℕ)). InSpan p width l joined.row) (sym halves)
        (InSpan-last p width (rows_of (clear_each p joined (extended bs))) joined.row some are_halves joined_pivot.fits)

    pub old_in_span : EachInSpan p width (rows_of after) (rows_of bs)
    old_in_span =
        subst (λ (l : List (List ℕ)). EachInSpan p width (rows_of after) l) (rows_of-extended bs)
        (uncleared (rows_of after) joined (extended bs) are_after joined_pivot.fits (IsReduced-extended p width bs reduced) new_in_span
        (subst (λ (l : List (List ℕ)). EachInSpan p width l (rows_of (clear_each p joined (extended bs)))) (sym halves)
        (EachInSpan-front p width (rows_of (clear_each p joined (extended bs))) joined.row some are_halves joined_pivot.fits)))

    -- the reduction is a multiple of the new row
    reduction_is : scale_row p (at_column reduction c) joined.row ≡ reduction
    reduction_is =
        ap (scale_row p (at_column reduction c)) (row-new_row p c k x n bs)
        ∙ scale_row-scale_row p (at_column reduction c) k reduction
        ∙ sym (scale_row-mod p (at_column reduction c * k) reduction)
        ∙ ap (λ (m : ℕ). scale_row p m reduction) one
        ∙ scale_row-one p reduction representative.fits.below

    pub inserted_in_span : InSpan p width (rows_of after) x
    inserted_in_span =
        let reduction_in_span = subst (λ (l : List ℕ). InSpan p width (rows_of after) l) reduction_is
        (InSpan-scale_row p width (at_column reduction c) (rows_of after) joined.row (omega arith) new_in_span) in
        InSpan-shifted p width some (rows_of after) are_after x reduction row representative.fits
        (InSpan-turned p width some (rows_of after) are_after reduction x representative.fits row
        (InSpan-trans p width (rows_of after) (rows_of bs) (difference p reduction x)
        (omega arith) are_after old_in_span representative.span))
        reduction_in_span

    pub EachInSpan-inserted : (added : List (List ℕ)) → EachInSpan p width (rows_of bs) added
        → EachInSpan p width (rows_of after) (added ++ x ∷ [])
    EachInSpan-inserted added each =
        EachInSpan-push p width (rows_of after) added x
        (EachInSpan-trans p width (rows_of after) (rows_of bs) added (omega arith) are_after old_in_span each) inserted_in_span

    pub not_pivot_before : IsPivot c bs → ⊥
    not_pivot_before = not_pivot c reduction bs last.nonzero representative.zero
