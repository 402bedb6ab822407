-- Each line of a held step is the sum of the rows that were added: its coefficients make the basis row, which is the tail minus what
-- the line says it equals.
use Rattle.std.proofs.Common.{◌≡◌, ◌+◌, ◌-◌, ◌*◌, ◌%◌, ◌<◌, ◌≤◌, ℕ, zero, suc, Bool, cond, List, ◌∷◌, get_or, length, map, filter, ap, ap₂}
use Rattle.std.proofs.Common.{sym, ◌∙◌, subst, arith, eq-eqb, ne_eqb, mod-eq_of_lt, zero-add, mul-zero, inl, inr}
use Rattle.std.proofs.Math.Nat.{mul-suc, suc-mul, add-mul-mod_self_left}
use Rattle.std.proofs.lemmas.Bool.{cases_eq, cond_both}
use Rattle.std.specs.List.{All}
use Rattle.std.proofs.lemmas.List.Elements.{All-nil, All-cons}
use Rattle.std.proofs.lemmas.List.{ext_get_or}
use Rattle.pq_base.specs.Canonical.{numbers_from}
use Rattle.fp_rows.specs.Row.{at_column}
use Rattle.fp_rows.specs.Rows.{IsRow}
use Rattle.fp_rows.specs.Differences.{difference}
use Rattle.fp_rows.proofs.EntryLaws.{get_or-add_scaled, at_column-below}
use Rattle.fp_rows.proofs.RowLaws.{length-add_scaled}
use Rattle.fp_echelon.specs.Span.{combine}
use Rattle.fp_echelon.specs.Reduced.{pivots_of, IsPivot, at_pivot}
use Rattle.fp_echelon.specs.Reduction.{negative}
use Rattle.fp_echelon.proofs.FoundRows.{sum_found, row_found}
use Rattle.fp_echelon.proofs.ReductionLaws.{negative-zero}
use Rattle.pc_presentation.specs.Pcp.{unit_row}
use Rattle.pc_presentation.proofs.rows.TailRowLaws.{length-unit_row}
use Rattle.cover_quotient.proofs.carried_rows.UnitRows.{unit_row-one, unit_row-other}
use Rattle.cover_quotient.specs.Kept.{is_listed}
use Rattle.cover_quotient.proofs.kept_tails.KeptColumns.{listed_pivot}
use Rattle.p_cover.specs.Covers.{CoverOf}
use Rattle.derivation_log.specs.HeldSteps.{HeldStep, held_basis}
use Rattle.derivation_log.specs.CertificateRuns.{row_of_pairs}
use Rattle.derivation_log.specs.CertificateParts.{IsSumOfRows}
use Rattle.derivation_log.specs.HeldLines.{pairs_of, kept_coefficient, tail_line, IsTold}
use Rattle.derivation_log.specs.HeldLineLaws.{HeldLinesAreSums}
use Rattle.derivation_log.proofs.PairRows.{get_or-row_of_pairs, length-row_of_pairs, row_of_pairs-entries}

-- minus minus a residue is the residue
minus_of_suc : (q j : ℕ) → j ≤ q → q * suc j ≡ (q - j) + suc q * j
minus_of_suc q j l =
    let a : q * suc j ≡ q * j + q = mul-suc q j in
    let b : suc q * j ≡ q * j + j = suc-mul q j in
    omega arith

minus_twice : (p r : ℕ) → 0 < p → r < p → (0 + (p - 1) * negative p r) % p ≡ r
minus_twice zero r h l = absurd (omega arith)
minus_twice (suc q) zero h l =
    ap (λ (n : ℕ). (0 + (suc q - 1) * n) % suc q) (negative-zero (suc q))
    ∙ ap (λ (n : ℕ). (0 + n) % suc q) (mul-zero (suc q - 1)) ∙ mod-eq_of_lt h
minus_twice (suc q) (suc r) h l =
    let less : suc q - 1 ≡ q = omega arith in
    let small : suc q - suc r < suc q = omega arith in
    let next : suc q - suc r ≡ suc (q - suc r) = omega arith in
    let back : q - (q - suc r) ≡ suc r = omega arith in
    ap (λ (n : ℕ). (0 + (suc q - 1) * n) % suc q) (mod-eq_of_lt small ∙ next)
    ∙ ap (λ (n : ℕ). (0 + n * suc (q - suc r)) % suc q) less
    ∙ ap (λ (n : ℕ). n % suc q) (zero-add (q * suc (q - suc r)) ∙ minus_of_suc q (q - suc r) (omega arith))
    ∙ add-mul-mod_self_left (q - (q - suc r)) (suc q) (q - suc r)
    ∙ ap (λ (n : ℕ). n % suc q) back ∙ mod-eq_of_lt l

module _ (p width t : ℕ) (row : List ℕ) (some : 1 < p) (is : IsRow p width row) (one : at_column row t
    ≡ 1) (first : 1 ≤ t) (last : t ≤ width) where
  abbrev kept : List ℕ
  kept = row_of_pairs width (pairs_of (kept_coefficient p t row) (numbers_from 1 width))

  entry : (i : ℕ) → i < width → (get_or (unit_row width t) i 0 + (p - 1) * kept_coefficient p t row (1 + i)) % p ≡ get_or row i 0
  entry i l =
      let place : 1 + i - 1 ≡ i = omega arith in
      elim (cases_eq (1 + i) t) [
        | inl here ↦
            let same : suc i ≡ t = omega (arith, here) in
            ap₂ (λ (a b : ℕ). (a + (p - 1) * b) % p)
            (subst (λ (k : ℕ). get_or (unit_row width k) i 0 ≡ 1) same (unit_row-one width i l))
            (ap (λ (b : Bool). cond b 0 (negative p (at_column row (1 + i)))) (eq-eqb (1 + i) t here))
            ∙ ap (λ (n : ℕ). (1 + n) % p) (mul-zero (p - 1)) ∙ mod-eq_of_lt some
            ∙ sym (ap (λ (k : ℕ). get_or row k 0) (sym place) ∙ ap (at_column row) here ∙ one)
        | inr other ↦
            ap₂ (λ (a b : ℕ). (a + (p - 1) * b) % p)
            (unit_row-other width t i (λ same. other (let e : t ≡ suc i = same in omega arith)))
            (ap (λ (b : Bool). cond b 0 (negative p (at_column row (1 + i)))) (ne_eqb (1 + i) t other))
            ∙ minus_twice p (at_column row (1 + i)) (omega arith) (at_column-below p row (1 + i) (omega arith) is.below)
            ∙ ap (λ (k : ℕ). get_or row k 0) place
      ]

  -- the row with 1 at a tail is the tail minus the other entries, each negated
  pub row-of_line : row ≡ difference p (unit_row width t) kept
  row-of_line =
      let wide = is.count in
      let unit_long = length-unit_row width t in
      let kept_long = length-row_of_pairs width (pairs_of (kept_coefficient p t row) (numbers_from 1 width)) in
      let alike : length (unit_row width t) ≡ length kept = unit_long ∙ sym kept_long in
      ext_get_or 0 row (difference p (unit_row width t) kept)
      (wide ∙ sym (length-add_scaled p (p - 1) (unit_row width t) kept alike ∙ unit_long)) (λ i l.
      sym (get_or-add_scaled p (p - 1) (unit_row width t) kept i (omega arith) alike
      ∙ ap (λ (k : ℕ). (get_or (unit_row width t) i 0 + (p - 1) * k) % p)
      (get_or-row_of_pairs (kept_coefficient p t row) width i (omega arith))
      ∙ entry i (omega arith)))

module _ (C : CoverOf) (s : HeldStep) (told : IsTold s) (prime : s.prime ≡ C.answer.presentation.prime) (width : s.width
    ≡ length C.sources) where
  -- the line of a pivot, over the cover's prime and width
  sum-of_line : (t : ℕ) → IsPivot t s.rows → 1 ≤ t → t ≤ s.width
      → combine s.prime s.width (row_of_pairs (length s.added) (tail_line s.prime s.rows t).sums) s.added
      ≡ difference s.prime (unit_row s.width t) (row_of_pairs s.width (tail_line s.prime s.rows t).kept)
  sum-of_line t pivot first last =
      let two = told.basis.prime in
      let found = row_found (held_basis s) told.basis t pivot in
      let sum = sum_found (held_basis s) told.basis t pivot in
      let row : List ℕ = (at_pivot t s.rows).row in
      let cs : List ℕ = (at_pivot t s.rows).coefficients in
      let coefficients : row_of_pairs (length s.added) (pairs_of (at_column cs) (numbers_from 1 (length cs))) ≡ cs =
      subst (λ (n : ℕ). row_of_pairs n (pairs_of (at_column cs) (numbers_from 1 (length cs)))
      ≡ cs) sum.fits.count (row_of_pairs-entries cs) in
      ap (λ (xs : List ℕ). combine s.prime s.width xs s.added) coefficients ∙ sum.sum
      ∙ subst (λ (n : ℕ). row
      ≡ difference s.prime (unit_row s.width t) (row_of_pairs s.width (pairs_of (kept_coefficient s.prime t row) (numbers_from 1 n))))
      (sym found.pivot_row.fits.count)
      (row-of_line s.prime s.width t row (omega arith) found.pivot_row.fits
      (ap (at_column row) (sym found.at) ∙ found.pivot_row.one) first last)

  is_sum : (t : ℕ) → IsPivot t s.rows → 1 ≤ t → t ≤ s.width → IsSumOfRows C s.added (tail_line s.prime s.rows t)
  is_sum t pivot first last = record {
    in_range = subst (λ (n : ℕ). t ≤ n) width last;
    sum = subst (λ (n : ℕ). combine C.answer.presentation.prime n (row_of_pairs (length s.added) (tail_line s.prime s.rows t).sums) s.added
        ≡ difference C.answer.presentation.prime (unit_row n t) (row_of_pairs n (tail_line s.prime s.rows t).kept)) width
        (subst (λ (p : ℕ). combine p s.width (row_of_pairs (length s.added) (tail_line s.prime s.rows t).sums) s.added
        ≡ difference p (unit_row s.width t) (row_of_pairs s.width (tail_line s.prime s.rows t).kept)) prime
        (sum-of_line t pivot first last));
  }

  -- of the pivots in a range
  are_sums : (n a : ℕ) → 1 ≤ a → a + n ≤ suc s.width
      → All (IsSumOfRows C s.added) (map (tail_line s.prime s.rows) (filter (λ t. is_listed t (pivots_of s.rows)) (numbers_from a n)))
  are_sums zero a first last = All-nil (IsSumOfRows C s.added)
  are_sums (suc n) a first last =
      let rest : List ℕ = filter (λ t. is_listed t (pivots_of s.rows)) (numbers_from (suc a) n) in
      let others = are_sums n (suc a) (omega arith) (omega arith) in
      cond_both (is_listed a (pivots_of s.rows)) (a ∷ rest) rest
      (λ (ts : List ℕ). All (IsSumOfRows C s.added) (map (tail_line s.prime s.rows) ts))
      (λ here. All-cons (IsSumOfRows C s.added) (tail_line s.prime s.rows a) (map (tail_line s.prime s.rows) rest)
      (is_sum a (listed_pivot a s.rows here) first (omega arith)) others)
      (λ other. others)

pub held_lines_are_sums : HeldLinesAreSums
held_lines_are_sums C s told prime width = are_sums C s told prime width s.width 1 (omega arith) (omega arith)
