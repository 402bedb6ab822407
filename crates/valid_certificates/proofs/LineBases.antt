-- The lines of a step make of its cover what a reduced basis makes, which is in the span of the rows that they are sums of: a tail with
-- a line becomes its representative modulo the basis, and the tails without one are those without a pivot.
use Rattle.std.proofs.Common.{◌≡◌, ◌<◌, ◌≤◌, ℕ, zero, suc, Bool, true, false, not, cond, ◌≢◌, ◌||◌, List, [], ◌∷◌, length, filter}
use Rattle.std.proofs.Common.{refl, ap, ap₂, sym, ◌∙◌, subst, arith, eq-eqb, ne_eqb, inl, inr}
use Rattle.std.proofs.lemmas.Bool.{cases_eq, cases_Bool}
use Rattle.std.specs.List.{All}
use Rattle.std.proofs.lemmas.List.Elements.{All-weaker}
use Rattle.pq_base.specs.Canonical.{numbers_from}
use Rattle.pq_base.proofs.NumberLists.{map_numbers-agree}
use Rattle.fp_rows.specs.Rows.{IsRow}
use Rattle.fp_rows.specs.Differences.{difference}
use Rattle.fp_echelon.specs.Span.{combine, InSpan, EachInSpan}
use Rattle.fp_echelon.specs.Reduced.{BasisRow, rows_of, IsPivot, at_pivot, IsReduced, ZeroAtPivots}
use Rattle.fp_echelon.specs.Reduction.{reduce_by}
use Rattle.fp_echelon.proofs.ReductionLaws.{AreRows-reduced}
use Rattle.fp_echelon.proofs.PlaceLaws.{at_pivot-head, at_pivot-tail}
use Rattle.fp_echelon.proofs.PivotLaws.{representative_is}
use Rattle.fp_echelon.proofs.ReduceMap.{reduce_by-fixed}
use Rattle.fp_echelon.proofs.SpanDifferences.{InSpan-turned}
use Rattle.fp_echelon.proofs.UniqueBasis.{found, ZeroAtPivots-from}
use Rattle.pc_presentation.specs.Pcp.{unit_row}
use Rattle.p_cover.specs.Covers.{CoverOf}
use Rattle.cover_quotient.specs.Combinations.{TailCombinations}
use Rattle.cover_quotient.specs.Kept.{is_listed, kept_columns, entries_at, kept_combinations}
use Rattle.cover_quotient.specs.NextAnswer.{combined_answer}
use Rattle.cover_quotient.proofs.carried_rows.UnitRows.{IsRow-unit_row, at_column-unit_row_other}
use Rattle.cover_quotient.proofs.kept_tails.KeptColumns.{listed_pivot, pivot_listed}
use Rattle.cover_quotient.proofs.kept_tails.KeptUnits.{pivot-first}
use Rattle.derivation_log.specs.Certificates.{TailLine, StepLines}
use Rattle.derivation_log.specs.CertificateForms.{has_line, are_tail_lines}
use Rattle.derivation_log.specs.CertificateRuns.{row_of_pairs, tail_row, kept_in, combinations_in, next_where}
use Rattle.derivation_log.specs.CertificateParts.{IsSumOfRows}
use Rattle.valid_certificates.specs.LineBases.{AreLinesOver, HasBasis, LinesHaveBases}
use Rattle.valid_certificates.proofs.LineForms.{IsLineAmong, first_line}
use Rattle.valid_certificates.proofs.LineRows.{line_row, line_rows, pivots_of_lines, row_of_pairs-is, column-of_pairs, all-reduced}

-- a pivot is the tail of a line
pivot-has_line : (p width : ℕ) (ls : List TailLine) (t : ℕ) → IsPivot t (line_rows p width ls) → has_line ls t ≡ true
pivot-has_line p width ls t pivot =
    ap (is_listed t) (sym (pivots_of_lines p width ls)) ∙ pivot_listed t (line_rows p width ls) pivot

module _ (p width n : ℕ) (big : 1 < p) (lines : List TailLine) (form : are_tail_lines p n lines 1 lines ≡ true)
    (within : All (λ (l : TailLine). l.tail ≤ width) lines) where
  abbrev bs : List BasisRow
  bs = line_rows p width lines

  reduced : IsReduced p width bs
  reduced = all-reduced p width big lines n within form

  -- a tail without a line is its own representative
  module _ (t : ℕ) where
    unit-is : IsRow p width (unit_row width t)
    unit-is = IsRow-unit_row p width t big

    row-without : (ls : List TailLine) → has_line ls t ≡ false → tail_row width ls t ≡ unit_row width t
    row-without [] none = refl
    row-without (l ∷ ls) none = elim (cases_eq l.tail t) [
      | inl same ↦ let listed : true ≡ false = sym (ap (λ (b : Bool). b || has_line ls t) (eq-eqb t l.tail (sym same))) ∙ none in cc
      | inr other ↦
          ap (λ (b : Bool). cond b (row_of_pairs width l.kept) (tail_row width ls t)) (ne_eqb l.tail t other)
          ∙ row-without ls (sym (ap (λ (b : Bool). b || has_line ls t) (ne_eqb t l.tail (λ e. other (sym e)))) ∙ none)
    ]

    unlisted-reduced : has_line lines t ≡ false → tail_row width lines t ≡ reduce_by p bs (unit_row width t)
    unlisted-reduced none =
        row-without lines none
        ∙ sym (reduce_by-fixed p width big bs (unit_row width t) reduced unit-is
        (ZeroAtPivots-from (unit_row width t) bs (λ d pivot.
        at_column-unit_row_other width t d (pivot-first p width big bs reduced d pivot)
        (λ same. let twice : true ≡ false =
        sym (pivot-has_line p width lines d pivot) ∙ ap (has_line lines) (sym same) ∙ none in cc))))

    -- one with a line becomes what the line says, which is 0 at all tails with lines
    record IsSaid (x : List ℕ) : Type 0 where
      pub fits : IsRow p width x
      pub zero : ZeroAtPivots x bs

    line-said : (l : TailLine) → IsLineAmong p lines l → IsSaid (row_of_pairs width l.kept)
    line-said l is = record {
      fits = row_of_pairs-is p width l.kept is.below;
      zero = ZeroAtPivots-from (row_of_pairs width l.kept) bs (λ d pivot.
          column-of_pairs width l.kept d (pivot-first p width big bs reduced d pivot)
          (is.unlisted d (pivot-has_line p width lines d pivot)));
    }

    later-listed : (l : TailLine) (ls : List TailLine) → l.tail ≢ t → has_line (l ∷ ls) t ≡ true → has_line ls t ≡ true
    later-listed l ls other listed =
        sym (ap (λ (b : Bool). b || has_line ls t) (ne_eqb t l.tail (λ e. other (sym e)))) ∙ listed

    row-said : (least : ℕ) (ls : List TailLine) → 1 ≤ least → are_tail_lines p n lines least ls ≡ true → has_line ls t ≡ true
        → IsSaid (tail_row width ls t)
    row-said least [] first form' listed = cc
    row-said least (l ∷ ls) first form' listed =
        let one = first_line p n (omega arith) lines least l ls first form' in
        let start = one.line.first in
        elim (cases_eq l.tail t) [
          | inl same ↦
              subst IsSaid (sym (ap (λ (b : Bool). cond b (row_of_pairs width l.kept) (tail_row width ls t)) (eq-eqb l.tail t same)))
              (line-said l one.line)
          | inr other ↦
              subst IsSaid (sym (ap (λ (b : Bool). cond b (row_of_pairs width l.kept) (tail_row width ls t)) (ne_eqb l.tail t other)))
              (row-said (suc l.tail) ls (omega arith) one.others (later-listed l ls other listed))
        ]

    -- the row of the line is the tail minus that
    pivot-row : (ls : List TailLine) → has_line ls t ≡ true
        → (at_pivot t (line_rows p width ls)).row ≡ difference p (unit_row width t) (tail_row width ls t)
    pivot-row [] listed = cc
    pivot-row (l ∷ ls) listed = elim (cases_eq l.tail t) [
      | inl same ↦
          ap (λ (b : BasisRow). b.row) (at_pivot-head t (line_row p width l) (line_rows p width ls) same)
          ∙ ap₂ (λ (u : ℕ) (x : List ℕ). difference p (unit_row width u) x) same
          (sym (ap (λ (b : Bool). cond b (row_of_pairs width l.kept) (tail_row width ls t)) (eq-eqb l.tail t same)))
      | inr other ↦
          ap (λ (b : BasisRow). b.row) (at_pivot-tail t (line_row p width l) (line_rows p width ls) other)
          ∙ pivot-row ls (later-listed l ls other listed)
          ∙ ap (difference p (unit_row width t))
          (sym (ap (λ (b : Bool). cond b (row_of_pairs width l.kept) (tail_row width ls t)) (ne_eqb l.tail t other)))
    ]

    listed-reduced : has_line lines t ≡ true → tail_row width lines t ≡ reduce_by p bs (unit_row width t)
    listed-reduced listed =
        let said = row-said 1 lines (omega arith) form listed in
        let pivot = listed_pivot t bs (ap (is_listed t) (pivots_of_lines p width lines) ∙ listed) in
        representative_is p width big bs (unit_row width t) (tail_row width lines t) reduced unit-is (record {
          fits = said.fits;
          zero = said.zero;
          span = InSpan-turned p width big (rows_of bs) (AreRows-reduced p width bs reduced) (unit_row width t) (tail_row width lines t)
              unit-is said.fits
              (subst (InSpan p width (rows_of bs)) (pivot-row lines listed) (found p width big t bs reduced pivot).span);
        })

    pub row-reduced : tail_row width lines t ≡ reduce_by p bs (unit_row width t)
    row-reduced = elim (cases_Bool (has_line lines t)) [ inl listed ↦ listed-reduced listed | inr none ↦ unlisted-reduced none ]

  -- rows of the lines that are sums of others are in their span
  module _ (rows : List (List ℕ)) where
    pub lines-spanned : (least : ℕ) (ls : List TailLine) → 1 ≤ least → are_tail_lines p n lines least ls ≡ true
        → All (λ (l : TailLine). combine p width (row_of_pairs (length rows) l.sums) rows
        ≡ difference p (unit_row width l.tail) (row_of_pairs width l.kept)) ls → EachInSpan p width rows (rows_of (line_rows p width ls))
    lines-spanned least [] first form' sums = tt
    lines-spanned least (l ∷ ls) first form' sums =
        let one = first_line p n (omega arith) lines least l ls first form' in
        let start = one.line.first in (
          record {
            coefficients = row_of_pairs (length rows) l.sums;
            fits = row_of_pairs-is p (length rows) l.sums one.line.sums;
            sum = sums 0 l (omega arith);
          },
          lines-spanned (suc l.tail) ls (omega arith) one.others (λ k d h. sums (suc k) d (omega arith)),
        )

module _ (C : CoverOf) (rows : List (List ℕ)) (s : StepLines) (are : AreLinesOver C rows s) where
  abbrev p : ℕ
  p = C.answer.presentation.prime

  abbrev width : ℕ
  width = length C.sources

  abbrev basis : List BasisRow
  basis = line_rows p width s.tails

  within : All (λ (l : TailLine). l.tail ≤ width) s.tails
  within = All-weaker (IsSumOfRows C rows) (λ (l : TailLine). l.tail ≤ width) (λ l sum. sum.in_range) s.tails are.sums

  sums : All (λ (l : TailLine). combine p width (row_of_pairs (length rows) l.sums) rows
      ≡ difference p (unit_row width l.tail) (row_of_pairs width l.kept)) s.tails
  sums = All-weaker (IsSumOfRows C rows) (λ (l : TailLine). combine p width (row_of_pairs (length rows) l.sums) rows
      ≡ difference p (unit_row width l.tail) (row_of_pairs width l.kept)) (λ l sum. sum.sum) s.tails are.sums

  kept-same : kept_in C s ≡ kept_columns width basis
  kept-same =
      ap (λ (ts : List ℕ). filter (λ t. not (is_listed t ts)) (numbers_from 1 width)) (sym (pivots_of_lines p width s.tails))

  combinations-same : combinations_in C s ≡ kept_combinations p width basis
  combinations-same =
      ap₂ (λ (kept : List ℕ) (xs : List (List ℕ)). let K : TailCombinations = record { prime = p; kept = kept; rows = xs } in K)
      kept-same
      (map_numbers-agree (λ t. entries_at (kept_in C s) (tail_row width s.tails t))
      (λ t. entries_at (kept_columns width basis) (reduce_by p basis (unit_row width t))) width 1 (λ t l m.
      ap₂ entries_at kept-same (row-reduced p width (length s.sources) are.prime s.tails are.form within t)))

  pub has-basis : HasBasis C rows s
  has-basis = record {
    basis = basis;
    is = record {
      reduced = all-reduced p width are.prime s.tails (length s.sources) within are.form;
      each = lines-spanned p width (length s.sources) are.prime s.tails are.form within rows 1 s.tails (omega arith) are.form sums;
    };
    kept = kept-same;
    next = ap (λ (K : TailCombinations). next_where (kept_in C s) C.answer (combined_answer C K)) combinations-same;
  }

pub lines_have_bases : LinesHaveBases
lines_have_bases = has-basis
