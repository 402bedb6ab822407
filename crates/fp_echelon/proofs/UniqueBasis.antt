-- Reduced bases of one span are equal: a row of the span has its last nonzero column at a pivot, and the row with this pivot
-- is the one row of the span that has 1 there and 0 at the other pivots.
use Rattle.std.proofs.Common.{◌≡◌, ◌≢◌, ◌↔◌, ◌⊎◌, ℕ, zero, suc, ◌+◌, ◌*◌, ◌%◌, ◌-◌, ◌<◌, ◌≤◌, Bool, true, false, cond, eqb, List, [], ◌∷◌}
use Rattle.std.proofs.Common.{length, inl, inr, ⊎_elim, refl, ap, ap₂, sym, ◌∙◌, subst, arith, mod-eq_of_lt, eq-eqb, ne_eqb, mul-one}
use Rattle.std.proofs.Common.{mul-zero, zero-add}
use Rattle.std.proofs.lemmas.Bool.{cases_eq, cases_lt}
use Rattle.pq_base.specs.Elementary.{zeros}
use Rattle.fp_rows.specs.Rows.{IsRow, add_rows, scale_row, add_scaled}
use Rattle.fp_rows.specs.Row.{at_column, IsLastNonzero}
use Rattle.fp_rows.proofs.EntryLaws.{at_column-zeros, at_column-below}
use Rattle.fp_rows.specs.Differences.{difference}
use Rattle.fp_echelon.specs.Span.{combine, AreRows, InSpan, EachInSpan}
use Rattle.fp_echelon.specs.Reduced.{BasisRow, rows_of, IsPivot, at_pivot, ZeroAt, ZeroAtPivots, IsPivotRow, AreApart, IsReduced}
use Rattle.fp_echelon.specs.Laws.{SpanTheSame, HaveTheSameRows}
use Rattle.fp_echelon.proofs.SpanLaws.{IsRow-combine, InSpan-head, InSpan-cons}
use Rattle.fp_rows.proofs.DifferenceLaws.{minus_one_cancels, equal_from_difference, IsRow-difference}
use Rattle.fp_echelon.proofs.SpanDifferences.{InSpan-difference}
use Rattle.fp_echelon.proofs.ReductionLaws.{AreRows-reduced, at_column-add_scaled}
use Rattle.fp_echelon.proofs.PlaceLaws.{at_pivot-head, at_pivot-tail}
use Rattle.fp_echelon.proofs.PivotLaws.{at_column-combine_cons, at_column-first_pivot, combine-zero_first, zero_from_pivots}

-- whether a column is a pivot
pub pivot_or_not : (c : ℕ) (bs : List BasisRow) → IsPivot c bs ⊎ (IsPivot c bs → ⊥)
pivot_or_not c [] = inr (λ h. h)
pivot_or_not c (b ∷ bs) =
    ⊎_elim (λ e. inl (inl e))
    (λ ne. ⊎_elim (λ h. inl (inr h)) (λ none. inr (λ h. ⊎_elim ne none h)) (pivot_or_not c bs)) (cases_eq b.pivot c)

-- the row at a pivot: everything that is true of a row of the basis
pub record Found (p width c : ℕ) (bs : List BasisRow) (b : BasisRow) : Type 0 where
  pub pivot_row : IsPivotRow p width b
  pub at : b.pivot ≡ c
  pub span : InSpan p width (rows_of bs) b.row
  pub others : (d : ℕ) → IsPivot d bs → d ≢ c → at_column b.row d ≡ 0
  pub column : (d : ℕ) → ZeroAt d bs → at_column b.row d ≡ 0

pub ZeroAtPivots-at : (x : List ℕ) (bs : List BasisRow) (d : ℕ) → ZeroAtPivots x bs → IsPivot d bs → at_column x d ≡ 0
ZeroAtPivots-at x [] d none h = elim h [ ]
ZeroAtPivots-at x (b ∷ bs) d none (inl e) = subst (λ (n : ℕ). at_column x n ≡ 0) e none.0
ZeroAtPivots-at x (b ∷ bs) d none (inr h) = ZeroAtPivots-at x bs d none.1 h

pub ZeroAtPivots-from : (x : List ℕ) (bs : List BasisRow) → ((d : ℕ) → IsPivot d bs → at_column x d ≡ 0) → ZeroAtPivots x bs
ZeroAtPivots-from x [] f = tt
ZeroAtPivots-from x (b ∷ bs) f = (f b.pivot (inl refl), ZeroAtPivots-from x bs (λ d h. f d (inr h)))

at_pivot-none : (c : ℕ) (bs : List BasisRow) → (IsPivot c bs → ⊥) → at_pivot c bs ≡ at_pivot c []
at_pivot-none c [] none = refl
at_pivot-none c (b ∷ bs) none = at_pivot-tail c b bs (λ e. none (inl e)) ∙ at_pivot-none c bs (λ h. none (inr h))

module _ (p width : ℕ) (some : 1 < p) where
  pub found : (c : ℕ) (bs : List BasisRow) → IsReduced p width bs → IsPivot c bs → Found p width c bs (at_pivot c bs)
  found c [] reduced h = elim h [ ]
  found c (b ∷ bs) reduced h =
      let are = AreRows-reduced p width bs reduced.2 in
      ⊎_elim
      (λ e.
      subst (λ (a : BasisRow). Found p width c (b ∷ bs) a) (sym (at_pivot-head c b bs e))
      (record {
        pivot_row = reduced.0;
        at = e;
        span = InSpan-head p width b.row (rows_of bs) some reduced.0.fits are;
        others = λ d pivot ne. ⊎_elim (λ e'. absurd (ne (sym e' ∙ e))) (λ more. ZeroAtPivots-at b.row bs d reduced.1.own more) pivot;
        column = λ d none. none.0;
      }))
      (λ ne.
      let rest = found c bs reduced.2 (⊎_elim (λ e. absurd (ne e)) (λ more. more) h) in
      subst (λ (a : BasisRow). Found p width c (b ∷ bs) a) (sym (at_pivot-tail c b bs ne))
      (record {
        pivot_row = rest.pivot_row;
        at = rest.at;
        span = InSpan-cons p width b.row (rows_of bs) (at_pivot c bs).row (omega arith) reduced.0.fits are rest.span;
        others = λ d pivot ne'. ⊎_elim
            (λ e'. subst (λ (n : ℕ). at_column (at_pivot c bs).row n ≡ 0) e' (rest.column b.pivot reduced.1.others))
            (λ more. rest.others d more ne') pivot;
        column = λ d none. rest.column d none.1;
      }))
      (cases_eq b.pivot c)

  -- a combination that is 0 after a column which is no pivot is 0 at this column too
  none_at : (bs : List BasisRow) (ks : List ℕ) (c : ℕ) → IsReduced p width bs → IsRow p (length (rows_of bs)) ks → (IsPivot c bs → ⊥)
      → ((d : ℕ) → c < d → at_column (combine p width ks (rows_of bs)) d ≡ 0) → at_column (combine p width ks (rows_of bs)) c ≡ 0
  none_at [] [] c reduced row none after = at_column-zeros width c
  none_at [] (k ∷ ks) c reduced row none after = at_column-zeros width c
  none_at (b ∷ bs) [] c reduced row none after = at_column-zeros width c
  none_at (b ∷ bs) (k ∷ ks) c reduced row none after =
      let are = AreRows-reduced p width bs reduced.2 in
      let long = row.count in
      let row' : IsRow p (length (rows_of bs)) ks = record { count = omega arith; below = row.below.1 } in
      let rest : List ℕ = combine p width ks (rows_of bs) in
      let rest_row = IsRow-combine p width ks (rows_of bs) (omega arith) are in
      -- where the first row is 0, the other rows alone make the entry
      let alone : (d : ℕ) → at_column b.row d ≡ 0 → at_column (combine p width (k ∷ ks) (rows_of (b ∷ bs))) d ≡ at_column rest d =
      λ d zero_there.
      at_column-combine_cons p width some k ks b.row (rows_of bs) d reduced.0.fits are
      ∙ ap (λ (n : ℕ). (k * n + at_column rest d) % p) zero_there
      ∙ ap (λ (n : ℕ). (n + at_column rest d) % p) (mul-zero k)
      ∙ ap (λ (n : ℕ). n % p) (zero-add (at_column rest d))
      ∙ mod-eq_of_lt (at_column-below p rest d (omega arith) rest_row.below) in
      ⊎_elim
      (λ before.
      alone c (reduced.0.last.zero_after c before)
      ∙ none_at bs ks c reduced.2 row' (λ h. none (inr h))
      (λ d l. sym (alone d (reduced.0.last.zero_after d (omega arith))) ∙ after d l))
      (λ later. ⊎_elim (λ e. absurd (none (inl e)))
      (λ ne.
      let first : k ≡ 0 = sym (at_column-first_pivot p width some b bs k ks reduced row.below.0) ∙ after b.pivot (omega arith) in
      let same = combine-zero_first p width some k ks b.row (rows_of bs) first reduced.0.fits are in
      ap (λ (l : List ℕ). at_column l c) same
      ∙ none_at bs ks c reduced.2 row' (λ h. none (inr h)) (λ d l. ap (λ (m : List ℕ). at_column m d) (sym same) ∙ after d l))
      (cases_eq b.pivot c))
      (cases_lt b.pivot c)

  -- the last nonzero column of a row of the span is a pivot
  pub last_is_pivot : (bs : List BasisRow) (x : List ℕ) (c : ℕ) → IsReduced p width bs → InSpan p width (rows_of bs) x → IsLastNonzero x c
      → IsPivot c bs
  last_is_pivot bs x c reduced s last =
      ⊎_elim (λ h. h)
      (λ none. absurd (last.nonzero
      (ap (λ (l : List ℕ). at_column l c) (sym s.sum)
      ∙ none_at bs s.coefficients c reduced s.fits none (λ d l. ap (λ (m : List ℕ). at_column m d) s.sum ∙ last.zero_after d l))))
      (pivot_or_not c bs)

  -- two reduced bases
  module _ (bs cs : List BasisRow) (reduced : IsReduced p width bs) (reduced' : IsReduced p width cs)
      (into : (x : List ℕ) → InSpan p width (rows_of bs) x → InSpan p width (rows_of cs) x) where
    pub same_pivot : (c : ℕ) → IsPivot c bs → IsPivot c cs
    same_pivot c h =
        let b = found c bs reduced h in
        last_is_pivot cs (at_pivot c bs).row c reduced' (into (at_pivot c bs).row b.span)
        (subst (λ (n : ℕ). IsLastNonzero (at_pivot c bs).row n) b.at b.pivot_row.last)

    same_row : (c : ℕ) → ((d : ℕ) → IsPivot d cs → IsPivot d bs) → IsPivot c bs → (at_pivot c bs).row ≡ (at_pivot c cs).row
    same_row c back h =
        let x : List ℕ = (at_pivot c bs).row in
        let y : List ℕ = (at_pivot c cs).row in
        let b = found c bs reduced h in
        let f = found c cs reduced' (same_pivot c h) in
        let row = b.pivot_row.fits in
        let row' = f.pivot_row.fits in
        let one : at_column x c ≡ 1 = subst (λ (n : ℕ). at_column x n ≡ 1) b.at b.pivot_row.one in
        let one' : at_column y c ≡ 1 = subst (λ (n : ℕ). at_column y n ≡ 1) f.at f.pivot_row.one in
        let entry : (d : ℕ) → at_column (difference p x y) d ≡ (at_column x d + (p - 1) * at_column y d) % p =
        λ d. at_column-add_scaled p (p - 1) x y d (omega arith) (row.count ∙ sym row'.count) in
        let zero_there : (d : ℕ) → IsPivot d cs → at_column (difference p x y) d ≡ 0 =
        λ d pivot. ⊎_elim
        (λ e.
        ap (at_column (difference p x y)) e
        ∙ entry c
        ∙ ap₂ (λ (m n : ℕ). (m + (p - 1) * n) % p) one one'
        ∙ ap (λ (n : ℕ). (1 + n) % p) (mul-one (p - 1))
        ∙ minus_one_cancels p (omega arith))
        (λ ne.
        entry d
        ∙ ap₂ (λ (m n : ℕ). (m + (p - 1) * n) % p) (b.others d (back d pivot) ne) (f.others d pivot ne)
        ∙ ap (λ (n : ℕ). (0 + n) % p) (mul-zero (p - 1))
        ∙ mod-eq_of_lt (omega arith))
        (cases_eq d c) in
        equal_from_difference p width some x y row row'
        (zero_from_pivots p width some cs (difference p x y) reduced'
        (InSpan-difference p width some (rows_of cs) (AreRows-reduced p width cs reduced') x y (into x b.span) f.span)
        (ZeroAtPivots-from (difference p x y) cs zero_there))

  pub same_rows : (bs cs : List BasisRow) → IsReduced p width bs → IsReduced p width cs → SpanTheSame p width (rows_of bs) (rows_of cs)
      → HaveTheSameRows bs cs
  same_rows bs cs reduced reduced' same =
      let there = same_pivot bs cs reduced reduced' (λ x. (same x).0) in
      let back = same_pivot cs bs reduced' reduced (λ x. (same x).1) in
      record {
        pivots = λ c. (there c, back c);
        rows = λ c. ⊎_elim (λ h. same_row bs cs reduced reduced' (λ x. (same x).0) c back h)
            (λ none. ap (λ (b : BasisRow). b.row) (at_pivot-none c bs none ∙ sym (at_pivot-none c cs (λ h. none (back c h)))))
            (pivot_or_not c bs);
      }
