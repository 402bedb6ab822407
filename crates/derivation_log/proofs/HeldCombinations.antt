-- The lines of a held step make of its cover what its basis makes: a tail with a line becomes the representative of the tail modulo the
-- basis, and the tails without one are those without a pivot.
use Rattle.std.proofs.Common.{◌≡◌, ◌+◌, ◌-◌, ◌<◌, ◌≤◌, ℕ, zero, suc, Bool, true, false, not, cond, eqb, ◌||◌, List, [], ◌∷◌, length, map}
use Rattle.std.proofs.Common.{filter, refl, ap, ap₂, sym, ◌∙◌, subst, arith, eq-eqb, ne_eqb, inl, inr}
use Rattle.std.proofs.lemmas.Bool.{cases_eq, cond_both, false_from_ne_true}
use Rattle.std.specs.List.{All}
use Rattle.pq_base.specs.Limits.{max_rank}
use Rattle.pq_base.specs.Answer.{class_of}
use Rattle.pq_base.specs.Canonical.{numbers_from}
use Rattle.pq_base.proofs.NumberLists.{map_numbers-agree}
use Rattle.fp_rows.specs.Row.{at_column}
use Rattle.fp_rows.specs.Rows.{IsRow}
use Rattle.fp_echelon.specs.Span.{InSpan}
use Rattle.fp_echelon.specs.Reduced.{BasisRow, rows_of, pivots_of, IsPivot, at_pivot, IsReduced, ZeroAtPivots}
use Rattle.fp_echelon.specs.Reduction.{negative, reduce_by}
use Rattle.fp_echelon.proofs.ReductionLaws.{AreRows-reduced, negative-zero}
use Rattle.fp_echelon.proofs.PivotLaws.{representative_is}
use Rattle.fp_echelon.proofs.ReduceMap.{reduce_by-fixed}
use Rattle.fp_echelon.proofs.SpanDifferences.{InSpan-turned}
use Rattle.fp_echelon.proofs.UniqueBasis.{Found, found, pivot_or_not, ZeroAtPivots-from}
use Rattle.pc_presentation.specs.Pcp.{unit_row}
use Rattle.p_cover.specs.Covers.{CoverOf}
use Rattle.cover_quotient.specs.Combinations.{TailCombinations}
use Rattle.cover_quotient.specs.Kept.{is_listed, kept_columns, entries_at, kept_combinations}
use Rattle.cover_quotient.specs.NextAnswer.{combined_answer, sources_at}
use Rattle.cover_quotient.specs.Defining.{MayBeKept, KeptMayBeKept}
use Rattle.cover_quotient.proofs.carried_rows.UnitRows.{IsRow-unit_row, at_column-unit_row_other}
use Rattle.cover_quotient.proofs.kept_tails.KeptColumns.{listed_pivot, pivot_listed}
use Rattle.cover_quotient.proofs.kept_tails.KeptUnits.{pivot-first}
use Rattle.derivation_log.specs.Certificates.{TailLine}
use Rattle.derivation_log.specs.CertificateRuns.{row_of_pairs, tail_row, kept_in, combinations_in, next_where}
use Rattle.derivation_log.specs.HeldSteps.{HeldStep}
use Rattle.derivation_log.specs.HeldLines.{pairs_of, kept_coefficient, tail_line, tail_lines, pivot_columns, held_lines, IsTold}
use Rattle.derivation_log.specs.HeldRuns.{kept_by}
use Rattle.derivation_log.specs.CertificateParts.{full_kind, GiveAnswer}
use Rattle.derivation_log.specs.HeldLineLaws.{HeldLinesMakeWhatTheBasisMakes}
use Rattle.derivation_log.proofs.PairForms.{at_least_next}
use Rattle.derivation_log.proofs.PairRows.{AllBelow-from_entries, get_or-row_of_pairs, length-row_of_pairs}
use Rattle.derivation_log.proofs.HeldForms.{tails_of_lines, not_listed, kept-below}
use Rattle.derivation_log.proofs.HeldSums.{row-of_line}

-- a number of a range that passes is listed among those that do
listed-cons : (t u : ℕ) (ts : List ℕ) → is_listed t ts ≡ true → is_listed t (u ∷ ts) ≡ true
listed-cons t u ts h = either (eqb t u) where
  either : (b : Bool) → (b || is_listed t ts) ≡ true
  either true = refl
  either false = h

listed-range : (test : ℕ → Bool) (n a t : ℕ) → a ≤ t → t < a + n → test t ≡ true → is_listed t (filter test (numbers_from a n)) ≡ true
listed-range test zero a t l m passes = absurd (omega arith)
listed-range test (suc n) a t l m passes =
    let rest : List ℕ = filter test (numbers_from (suc a) n) in
    elim (cases_eq a t) [
      | inl here ↦
          ap (λ (b : Bool). is_listed t (cond b (a ∷ rest) rest)) (ap test here ∙ passes)
          ∙ ap (λ (b : Bool). b || is_listed t rest) (eq-eqb t a (sym here))
      | inr other ↦
          let later = listed-range test n (suc a) t (at_least_next a t l other) (omega arith) passes in
          cond_both (test a) (a ∷ rest) rest (λ (ts : List ℕ). is_listed t ts ≡ true) (λ e. listed-cons t a rest later) (λ e. later)
    ]

same-listed : (test : ℕ → Bool) (n a t : ℕ) → a ≤ t → t < a + n → (b : Bool) → test t ≡ b → is_listed t (filter test (numbers_from a n)) ≡ b
same-listed test n a t l m true e = listed-range test n a t l m e
same-listed test n a t l m false e = not_listed test t e (numbers_from a n)

-- tests that agree on a range
filter_agree : (f g : ℕ → Bool) (n a : ℕ) → ((t : ℕ) → a ≤ t → t < a + n → f t ≡ g t)
    → filter f (numbers_from a n) ≡ filter g (numbers_from a n)
filter_agree f g zero a same = refl
filter_agree f g (suc n) a same =
    ap₂ (λ (b : Bool) (ts : List ℕ). cond b (a ∷ ts) ts) (same a (omega arith) (omega arith))
    (filter_agree f g n (suc a) (λ t l m. same t (omega arith) (omega arith)))

-- the row of a tail by lines of pivots
module _ (p width : ℕ) (bs : List BasisRow) where
  row-with_line : (t : ℕ) (ts : List ℕ) → is_listed t ts ≡ true
      → tail_row width (map (tail_line p bs) ts) t ≡ row_of_pairs width (tail_line p bs t).kept
  row-with_line t [] h = cc
  row-with_line t (u ∷ ts) h =
      let here : List ℕ = row_of_pairs width (tail_line p bs u).kept in
      let later : List ℕ = tail_row width (map (tail_line p bs) ts) t in
      elim (cases_eq u t) [
        | inl same ↦
            ap (λ (b : Bool). cond b here later) (eq-eqb u t same)
            ∙ ap (λ (k : ℕ). row_of_pairs width (tail_line p bs k).kept) same
        | inr other ↦
            ap (λ (b : Bool). cond b here later) (ne_eqb u t other)
            ∙ row-with_line t ts (sym (ap (λ (b : Bool). b || is_listed t ts) (ne_eqb t u (λ e. other (sym e)))) ∙ h)
      ]

  row-without_line : (t : ℕ) (ts : List ℕ) → is_listed t ts ≡ false → tail_row width (map (tail_line p bs) ts) t ≡ unit_row width t
  row-without_line t [] h = refl
  row-without_line t (u ∷ ts) h =
      let here : List ℕ = row_of_pairs width (tail_line p bs u).kept in
      let later : List ℕ = tail_row width (map (tail_line p bs) ts) t in
      elim (cases_eq u t) [
        | inl same ↦ let listed : true ≡ false = sym (ap (λ (b : Bool). b || is_listed t ts) (eq-eqb t u (sym same))) ∙ h in cc
        | inr other ↦
            ap (λ (b : Bool). cond b here later) (ne_eqb u t other)
            ∙ row-without_line t ts (sym (ap (λ (b : Bool). b || is_listed t ts) (ne_eqb t u (λ e. other (sym e)))) ∙ h)
      ]

module _ (p width : ℕ) (bs : List BasisRow) (some : 1 < p) (reduced : IsReduced p width bs) (t : ℕ) (first : 1 ≤ t) (last : t ≤ width) where
  unit-is : IsRow p width (unit_row width t)
  unit-is = IsRow-unit_row p width t some

  module _ (pivot : IsPivot t bs) where
    abbrev row : List ℕ
    row = (at_pivot t bs).row

    the_row : Found p width t bs (at_pivot t bs)
    the_row = found p width some t bs reduced pivot

    abbrev kept_row : List ℕ
    kept_row = row_of_pairs width (pairs_of (kept_coefficient p t row) (numbers_from 1 width))

    kept_row-is : IsRow p width kept_row
    kept_row-is =
        let long = length-row_of_pairs width (pairs_of (kept_coefficient p t row) (numbers_from 1 width)) in
        record {
          count = long;
          below = AllBelow-from_entries p kept_row (λ i l.
              subst (λ (x : ℕ). x < p) (sym (get_or-row_of_pairs (kept_coefficient p t row) width i (omega (arith, long, l))))
              (kept-below p t row (omega arith) (1 + i)));
        }

    zero-at : (d : ℕ) → IsPivot d bs → kept_coefficient p t row d ≡ 0
    zero-at d another = elim (cases_eq d t) [
      | inl same ↦ ap (λ (b : Bool). cond b 0 (negative p (at_column row d))) (eq-eqb d t same)
      | inr other ↦
          ap (λ (b : Bool). cond b 0 (negative p (at_column row d))) (ne_eqb d t other)
          ∙ ap (negative p) (the_row.others d another other) ∙ negative-zero p
    ]

    zero-at_pivots : ZeroAtPivots kept_row bs
    zero-at_pivots = ZeroAtPivots-from kept_row bs (λ d another.
        let from_one = pivot-first p width some bs reduced d another in
        let other = found p width some d bs reduced another in
        let column = other.pivot_row.last.column.last in
        let at = other.at in
        let wide = other.pivot_row.fits.count in
        let place : 1 + (d - 1) ≡ d = omega arith in
        get_or-row_of_pairs (kept_coefficient p t row) width (d - 1) (omega arith)
        ∙ ap (kept_coefficient p t row) place ∙ zero-at d another)

    one-at : at_column row t ≡ 1
    one-at = ap (at_column row) (sym the_row.at) ∙ the_row.pivot_row.one

    kept_row-reduced : kept_row ≡ reduce_by p bs (unit_row width t)
    kept_row-reduced =
        representative_is p width some bs (unit_row width t) kept_row reduced unit-is (record {
          fits = kept_row-is;
          zero = zero-at_pivots;
          span = InSpan-turned p width some (rows_of bs) (AreRows-reduced p width bs reduced)
              (unit_row width t) kept_row unit-is kept_row-is
              (subst (InSpan p width (rows_of bs)) (row-of_line p width t row some the_row.pivot_row.fits one-at first last) the_row.span);
        })

    tail_row-pivot : tail_row width (tail_lines p width bs) t ≡ reduce_by p bs (unit_row width t)
    tail_row-pivot =
        row-with_line p width bs t (pivot_columns width bs)
        (listed-range (λ u. is_listed u (pivots_of bs)) width 1 t first (omega arith) (pivot_listed t bs pivot))
        ∙ ap (λ (n : ℕ). row_of_pairs width (pairs_of (kept_coefficient p t row) (numbers_from 1 n))) the_row.pivot_row.fits.count
        ∙ kept_row-reduced

  module _ (none : IsPivot t bs → ⊥) where
    not_pivot : is_listed t (pivots_of bs) ≡ false
    not_pivot = false_from_ne_true (is_listed t (pivots_of bs)) (λ e. none (listed_pivot t bs e))

    tail_row-no_pivot : tail_row width (tail_lines p width bs) t ≡ reduce_by p bs (unit_row width t)
    tail_row-no_pivot =
        row-without_line p width bs t (pivot_columns width bs)
        (not_listed (λ u. is_listed u (pivots_of bs)) t not_pivot (numbers_from 1 width))
        ∙ sym (reduce_by-fixed p width some bs (unit_row width t) reduced unit-is
        (ZeroAtPivots-from (unit_row width t) bs (λ d h.
        at_column-unit_row_other width t d (pivot-first p width some bs reduced d h)
        (λ e. none (subst (λ (n : ℕ). IsPivot n bs) (sym e) h)))))

  pub tail_row-reduced : tail_row width (tail_lines p width bs) t ≡ reduce_by p bs (unit_row width t)
  tail_row-reduced = elim (pivot_or_not t bs) [ inl pivot ↦ tail_row-pivot pivot | inr none ↦ tail_row-no_pivot none ]

module _ (C : CoverOf) (s : HeldStep) (told : IsTold s) (prime : s.prime ≡ C.answer.presentation.prime) (width : s.width
    ≡ length C.sources) where
  -- the tails without a line are those without a pivot
  kept-same : kept_in C (held_lines s) ≡ kept_columns (length C.sources) s.rows
  kept-same =
      filter_agree (λ t. not (is_listed t (map (λ (l : TailLine). l.tail) (tail_lines s.prime s.width s.rows))))
      (λ t. not (is_listed t (pivots_of s.rows)))
      (length C.sources) 1 (λ t l m.
      ap not
      (ap (is_listed t) (tails_of_lines s.prime s.rows (pivot_columns s.width s.rows))
      ∙ same-listed (λ u. is_listed u (pivots_of s.rows)) s.width 1 t l (omega (arith, width)) (is_listed t (pivots_of s.rows)) refl))

  -- and each tail becomes its representative
  pub combinations-same : combinations_in C (held_lines s) ≡ kept_combinations C.answer.presentation.prime (length C.sources) s.rows
  combinations-same =
      let two = told.basis.prime in
      ap₂ (λ (kept : List ℕ) (rows : List (List ℕ)). let K : TailCombinations = record
      { prime = C.answer.presentation.prime; kept = kept; rows = rows } in K)
      kept-same
      (map_numbers-agree (λ t. entries_at (kept_in C (held_lines s)) (tail_row (length C.sources) (held_lines s).tails t))
      (λ t. entries_at (kept_columns (length C.sources) s.rows)
      (reduce_by C.answer.presentation.prime s.rows (unit_row (length C.sources) t)))
      (length C.sources) 1 (λ t l m.
      ap₂ entries_at kept-same
      (subst (λ (q : ℕ). tail_row q (tail_lines s.prime s.width s.rows) t
      ≡ reduce_by C.answer.presentation.prime s.rows (unit_row q t)) width
      (subst (λ (q : ℕ). tail_row s.width (tail_lines s.prime s.width s.rows) t ≡ reduce_by q s.rows (unit_row s.width t)) prime
      (tail_row-reduced s.prime s.width s.rows (omega arith) told.basis.reduced t l (omega (arith, width)))))))

pub held_lines_make_what_the_basis_makes : HeldLinesMakeWhatTheBasisMakes
held_lines_make_what_the_basis_makes C s told prime width = record {
  kept = kept-same C s told prime width;
  next = ap₂ (λ (ts : List ℕ) (K : TailCombinations). next_where ts C.answer (combined_answer C K)) (kept-same C s told prime width)
      (combinations-same C s told prime width);
}

-- where the tails that the basis keeps may be kept, and give a rank within the limit, the lines give an answer
pub held_lines-give_answer : (C : CoverOf) (s : HeldStep) → IsTold s → s.prime ≡ C.answer.presentation.prime → s.width ≡ length C.sources
    → KeptMayBeKept C s.rows → C.answer.presentation.rank + length (kept_by C s) ≤ max_rank → GiveAnswer full_kind C (held_lines s)
held_lines-give_answer C s told prime width may limit = record {
  limit = subst (λ (ts : List ℕ). C.answer.presentation.rank + length ts ≤ max_rank) (sym (kept-same C s told prime width)) limit;
  may_keep = subst (λ (ts : List ℕ). All (MayBeKept C.answer (class_of C.answer)) (sources_at ts C.sources))
      (sym (kept-same C s told prime width)) may;
}
