-- A combination of the rows of a reduced basis has its coefficients at the pivots. So a row of the span that is 0 at every
-- pivot is the zero row, a row has one representative that is 0 at every pivot, and it is in the span exactly where this
-- representative is zero.
use Rattle.std.proofs.Common.{◌≡◌, ◌↔◌, ℕ, zero, suc, ◌+◌, ◌*◌, ◌%◌, ◌-◌, ◌<◌, ◌≤◌, List, [], ◌∷◌, length, refl, ap, ap₂, sym, ◌∙◌, subst}
use Rattle.std.proofs.Common.{arith, mod-eq_of_lt}
use Rattle.std.proofs.Math.Nat.{mod-add-mod}
use Rattle.pq_base.specs.Elementary.{zeros}
use Rattle.fp_rows.specs.Rows.{IsRow, add_rows, scale_row, add_scaled}
use Rattle.fp_rows.specs.Row.{at_column}
use Rattle.fp_rows.proofs.RowLaws.{IsRow-zeros, IsRow-scale_row, scale_row-zero, zeros-add_rows}
use Rattle.fp_rows.proofs.EntryLaws.{get_or-add_rows, get_or-scale_row, at_column-zeros}
use Rattle.fp_rows.specs.Differences.{difference}
use Rattle.fp_echelon.specs.Span.{combine, AreRows, InSpan}
use Rattle.fp_echelon.specs.Reduced.{BasisRow, rows_of, ZeroAt, ZeroAtPivots, IsReduced, IsRepresentative}
use Rattle.fp_echelon.specs.Reduction.{reduce_by}
use Rattle.fp_echelon.proofs.SpanLaws.{IsRow-combine, InSpan-zeros}
use Rattle.fp_rows.proofs.DifferenceLaws.{IsRow-difference, equal_from_difference}
use Rattle.fp_echelon.proofs.SpanDifferences.{InSpan-through, InSpan-turned, InSpan-shifted, InSpan-difference}
use Rattle.fp_echelon.proofs.ReductionLaws.{AreRows-reduced, at_column-add_scaled, IsRepresentative-reduce_by}

module _ (p width : ℕ) (some : 1 < p) where
  pub at_column-combine_cons : (c : ℕ) (cs : List ℕ) (r : List ℕ) (rows : List (List ℕ)) (d : ℕ) → IsRow p width r → AreRows p width rows
      → at_column (combine p width (c ∷ cs) (r ∷ rows)) d ≡ (c * at_column r d + at_column (combine p width cs rows) d) % p
  at_column-combine_cons c cs r rows d row are =
      let rest = combine p width cs rows in
      let scaled = IsRow-scale_row p width c r (omega arith) row in
      get_or-add_rows p (scale_row p c r) rest (d - 1) (omega arith)
      (scaled.count ∙ sym (IsRow-combine p width cs rows (omega arith) are).count)
      ∙ ap (λ (n : ℕ). (n + at_column rest d) % p) (get_or-scale_row p c r (d - 1) (omega arith))
      ∙ mod-add-mod (c * at_column r d) p (at_column rest d)

  -- a combination has 0 at a column where its rows have
  pub at_column-combine : (bs : List BasisRow) (cs : List ℕ) (d : ℕ) → AreRows p width (rows_of bs) → ZeroAt d bs
      → at_column (combine p width cs (rows_of bs)) d ≡ 0
  at_column-combine [] [] d are none = at_column-zeros width d
  at_column-combine (b ∷ bs) [] d are none = at_column-zeros width d
  at_column-combine [] (c ∷ cs) d are none = at_column-zeros width d
  at_column-combine (b ∷ bs) (c ∷ cs) d are none =
      let nothing : c * 0 + 0 ≡ 0 = omega arith in
      at_column-combine_cons c cs b.row (rows_of bs) d are.0 are.1
      ∙ ap₂ (λ (m n : ℕ). (c * m + n) % p) none.0 (at_column-combine bs cs d are.1 none.1)
      ∙ ap (λ (n : ℕ). n % p) nothing
      ∙ mod-eq_of_lt (omega arith)

  -- the coefficient of the first row stands at its pivot
  pub at_column-first_pivot : (b : BasisRow) (bs : List BasisRow) (c : ℕ) (cs : List ℕ) → IsReduced p width (b ∷ bs) → c < p
      → at_column (combine p width (c ∷ cs) (rows_of (b ∷ bs))) b.pivot ≡ c
  at_column-first_pivot b bs c cs reduced h =
      let same : c * 1 + 0 ≡ c = omega arith in
      let are = AreRows-reduced p width bs reduced.2 in
      at_column-combine_cons c cs b.row (rows_of bs) b.pivot reduced.0.fits are
      ∙ ap₂ (λ (m n : ℕ). (c * m + n) % p) reduced.0.one (at_column-combine bs cs b.pivot are reduced.1.others)
      ∙ ap (λ (n : ℕ). n % p) same
      ∙ mod-eq_of_lt h

  -- a combination whose first coefficient is 0 is one of the other rows
  pub combine-zero_first : (c : ℕ) (cs : List ℕ) (r : List ℕ) (rows : List (List ℕ)) → c ≡ 0 → IsRow p width r → AreRows p width rows
      → combine p width (c ∷ cs) (r ∷ rows) ≡ combine p width cs rows
  combine-zero_first c cs r rows e row are =
      ap (λ (n : ℕ). add_rows p (scale_row p n r) (combine p width cs rows)) e
      ∙ ap (λ (l : List ℕ). add_rows p l (combine p width cs rows)) (scale_row-zero p r (omega arith) ∙ ap zeros row.count)
      ∙ zeros-add_rows p width (combine p width cs rows) (IsRow-combine p width cs rows (omega arith) are)

  combine-zero_at_pivots : (bs : List BasisRow) (cs : List ℕ) → IsReduced p width bs → IsRow p (length (rows_of bs)) cs
      → ZeroAtPivots (combine p width cs (rows_of bs)) bs → combine p width cs (rows_of bs) ≡ zeros width
  combine-zero_at_pivots [] cs reduced row none = combine-of_none cs
    where
      combine-of_none : (ds : List ℕ) → combine p width ds [] ≡ zeros width
      combine-of_none [] = refl
      combine-of_none (d ∷ ds) = refl
  combine-zero_at_pivots (b ∷ bs) [] reduced row none = refl
  combine-zero_at_pivots (b ∷ bs) (c ∷ cs) reduced row none =
      let long = row.count in
      let first : c ≡ 0 = sym (at_column-first_pivot b bs c cs reduced row.below.0) ∙ none.0 in
      let same = combine-zero_first c cs b.row (rows_of bs) first reduced.0.fits (AreRows-reduced p width bs reduced.2) in
      same
      ∙ combine-zero_at_pivots bs cs reduced.2 (record { count = omega arith; below = row.below.1 })
      (subst (λ (l : List ℕ). ZeroAtPivots l bs) same none.1)

  pub zero_from_pivots : (bs : List BasisRow) (x : List ℕ) → IsReduced p width bs → InSpan p width (rows_of bs) x → ZeroAtPivots x bs
      → x ≡ zeros width
  zero_from_pivots bs x reduced s none =
      sym s.sum
      ∙ combine-zero_at_pivots bs s.coefficients reduced s.fits (subst (λ (l : List ℕ). ZeroAtPivots l bs) (sym s.sum) none)

  pub ZeroAtPivots-difference : (bs : List BasisRow) (x y : List ℕ) → IsRow p width x → IsRow p width y
      → ZeroAtPivots x bs → ZeroAtPivots y bs → ZeroAtPivots (difference p x y) bs
  ZeroAtPivots-difference [] x y row row' none none' = tt
  ZeroAtPivots-difference (b ∷ bs) x y row row' none none' =
      let nothing : 0 + (p - 1) * 0 ≡ 0 = omega arith in (
        at_column-add_scaled p (p - 1) x y b.pivot (omega arith) (row.count ∙ sym row'.count)
            ∙ ap₂ (λ (m n : ℕ). (m + (p - 1) * n) % p) none.0 none'.0
            ∙ ap (λ (n : ℕ). n % p) nothing
            ∙ mod-eq_of_lt (omega arith),
        ZeroAtPivots-difference bs x y row row' none.1 none'.1,
      )

  -- two rows that differ by a row of the span and are 0 at every pivot are equal
  pub equal_from_pivots : (bs : List BasisRow) (x y : List ℕ) → IsReduced p width bs → IsRow p width x → IsRow p width y
      → ZeroAtPivots x bs → ZeroAtPivots y bs → InSpan p width (rows_of bs) (difference p x y) → x ≡ y
  equal_from_pivots bs x y reduced row row' none none' s =
      equal_from_difference p width some x y row row'
      (zero_from_pivots bs (difference p x y) reduced s (ZeroAtPivots-difference bs x y row row' none none'))

  pub IsRepresentative-unique : (bs : List BasisRow) (x y z : List ℕ) → IsReduced p width bs → IsRow p width x
      → IsRepresentative p width bs x y → IsRepresentative p width bs x z → y ≡ z
  IsRepresentative-unique bs x y z reduced row r s =
      let are = AreRows-reduced p width bs reduced in
      equal_from_pivots bs y z reduced r.fits s.fits r.zero s.zero
      (InSpan-through p width some (rows_of bs) are y x z r.fits row s.fits r.span
      (InSpan-turned p width some (rows_of bs) are z x s.fits row s.span))

  -- every representative is the reduction
  pub representative_is : (bs : List BasisRow) (x y : List ℕ) → IsReduced p width bs → IsRow p width x → IsRepresentative p width bs x y
      → y ≡ reduce_by p bs x
  representative_is bs x y reduced row r =
      IsRepresentative-unique bs x y (reduce_by p bs x) reduced row r (IsRepresentative-reduce_by p width some bs x reduced row)

  pub ZeroAtPivots-zeros : (bs : List BasisRow) → ZeroAtPivots (zeros width) bs
  ZeroAtPivots-zeros [] = tt
  ZeroAtPivots-zeros (b ∷ bs) = (at_column-zeros width b.pivot, ZeroAtPivots-zeros bs)

  -- a row is in the span exactly where its representative is zero
  pub InSpan-from_representative : (bs : List BasisRow) (x y : List ℕ) → IsReduced p width bs → IsRow p width x
      → IsRepresentative p width bs x y → y ≡ zeros width → InSpan p width (rows_of bs) x
  InSpan-from_representative bs x y reduced row r e =
      let are = AreRows-reduced p width bs reduced in
      InSpan-shifted p width some (rows_of bs) are x y row r.fits
      (InSpan-turned p width some (rows_of bs) are y x r.fits row r.span)
      (subst (λ (l : List ℕ). InSpan p width (rows_of bs) l) (sym e) (InSpan-zeros p width (rows_of bs) (omega arith) are))

  pub representative-zero : (bs : List BasisRow) (x y : List ℕ) → IsReduced p width bs → IsRow p width x
      → IsRepresentative p width bs x y → InSpan p width (rows_of bs) x → y ≡ zeros width
  representative-zero bs x y reduced row r s =
      zero_from_pivots bs y reduced
      (InSpan-shifted p width some (rows_of bs) (AreRows-reduced p width bs reduced) y x r.fits row r.span s) r.zero
