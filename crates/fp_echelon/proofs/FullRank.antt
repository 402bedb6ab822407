-- A reduced basis with as many rows as columns has a pivot at each column, so it spans every row.
use Rattle.std.proofs.Common.{◌≡◌, ℕ, suc, ◌-◌, ◌<◌, ◌≤◌, ◌||◌, Bool, true, false, List, [], ◌∷◌, length, get_or, eqb, refl, ap, sym, ◌∙◌}
use Rattle.std.proofs.Common.{subst, arith}
use borrow.Author.Tests.{eqb-true}
use Rattle.std.specs.List.{AllByRecursion, list_any}
use Rattle.std.proofs.lemmas.Map.Keys.{IsDistinct-cons}
use Rattle.std.proofs.lemmas.Map.Steps.{length-le_from_distinct_below}
use Rattle.fp_rows.specs.Rows.{IsRow}
use Rattle.pq_base.specs.Elementary.{zeros}
use Rattle.fp_rows.proofs.EntryLaws.{IsZeroRow-from_entries, IsZeroRow-is_zeros}
use Rattle.fp_echelon.specs.Span.{InSpan}
use Rattle.fp_echelon.specs.Reduced.{BasisRow, rows_of, ZeroAtPivots, IsReduced}
use Rattle.fp_echelon.specs.Reduction.{reduce_by}
use Rattle.fp_echelon.proofs.ReductionLaws.{IsRepresentative-reduce_by}
use Rattle.fp_echelon.proofs.RankLaws.{places, length-places, either, places_are_distinct, places-below}
use Rattle.fp_echelon.proofs.PivotLaws.{InSpan-from_representative}

zero_at_place : (y : List ℕ) (bs : List BasisRow) (q : ℕ) → ZeroAtPivots y bs → list_any (eqb q) (places bs) ≡ true → get_or y q 0 ≡ 0
zero_at_place y [] q none h = cc
zero_at_place y (b ∷ bs) q none h =
    either (eqb q (b.pivot - 1)) (list_any (eqb q) (places bs)) (get_or y q 0 ≡ 0)
    (λ e. ap (λ (i : ℕ). get_or y i 0) (eqb-true q (b.pivot - 1) e) ∙ none.0)
    (zero_at_place y bs q none.1) h

neither : (a b : Bool) → (a || b) ≡ false → (a ≡ false) × (b ≡ false)
neither true b h = cc
neither false b h = (refl, h)

no_place : (q : ℕ) (ps : List ℕ) → list_any (eqb q) ps ≡ false → AllByRecursion (λ y. eqb q y ≡ false) ps
no_place q [] h = tt
no_place q (y ∷ ps) h =
    let both = neither (eqb q y) (list_any (eqb q) ps) h in
    (both.0, no_place q ps both.1)

-- a column without a pivot would be one place more
module _ (p width : ℕ) (bs : List BasisRow) (reduced : IsReduced p width bs) where
  one_more : (q : ℕ) → q < width → list_any (eqb q) (places bs) ≡ false → suc (length bs) ≤ width
  one_more q l none =
      omega (
        arith,
        length-places bs,
        length-le_from_distinct_below (q ∷ places bs) width
            (IsDistinct-cons eqb q (places bs) (no_place q (places bs) none) (places_are_distinct p width bs reduced))
            (λ r h. either (eqb r q) (list_any (eqb r) (places bs)) (r < width)
            (λ e. subst (λ (n : ℕ). n < width) (sym (eqb-true r q e)) l) (places-below p width bs r reduced) h),
      )

  zero_at : (y : List ℕ) (q : ℕ) → width ≤ length bs → q < width → ZeroAtPivots y bs → (b : Bool) → list_any (eqb q) (places bs) ≡ b
      → get_or y q 0 ≡ 0
  zero_at y q full l none true e = zero_at_place y bs q none e
  zero_at y q full l none false e = let more = one_more q l e in absurd (omega arith)

  pub full-spans : 1 < p → width ≤ length bs → (x : List ℕ) → IsRow p width x → InSpan p width (rows_of bs) x
  full-spans some full x row =
      let r = IsRepresentative-reduce_by p width some bs x reduced row in
      let wide = r.fits.count in
      let none = IsZeroRow-from_entries (reduce_by p bs x)
      (λ i l. zero_at (reduce_by p bs x) i full (subst (λ (n : ℕ). i < n) wide l) r.zero (list_any (eqb i) (places bs)) refl) in
      InSpan-from_representative p width some bs x (reduce_by p bs x) reduced row r
      (IsZeroRow-is_zeros (reduce_by p bs x) none ∙ ap zeros r.fits.count)
