-- The lines of held steps keep the conditions of the text of certificates: pivots rise; the other entries of a basis row that aren't 0
-- stand before its pivot, at columns without a pivot; and a basis row isn't 0, so that some coefficient isn't.
use Rattle.std.proofs.Common.{◌≡◌, ◌≢◌, ◌+◌, ◌-◌, ◌<◌, ◌≤◌, ◌%◌, ℕ, zero, suc, Bool, true, false, eqb, ltb, cond, ◌||◌, List, [], ◌∷◌}
use Rattle.std.proofs.Common.{get_or, length, map, filter, refl, ap, ap₂, sym, ◌∙◌, subst, arith, ne_eqb, eq-eqb, mod-lt, inl, inr}
use Rattle.std.proofs.Math.Nat.{mod_self}
use Rattle.std.proofs.lemmas.Bool.{cases_lt, cond_both, lt-ltb, false_from_ne_true}
use Rattle.pq_base.specs.Elementary.{zeros}
use Rattle.pq_base.specs.Canonical.{numbers_from}
use Rattle.fp_rows.specs.Row.{at_column, IsZeroRow}
use Rattle.fp_rows.proofs.EntryLaws.{at_column-zeros, at_column-below, IsZeroRow-is_zeros, IsZeroRow-from_entries}
use Rattle.fp_echelon.specs.Span.{combine}
use Rattle.fp_echelon.specs.Reduced.{BasisRow, pivots_of, IsPivot, at_pivot}
use Rattle.fp_echelon.specs.Reduction.{negative}
use Rattle.fp_echelon.proofs.SpanLaws.{combine-zeros}
use Rattle.fp_echelon.proofs.FoundRows.{sum_found, row_found}
use Rattle.cover_quotient.specs.Kept.{is_listed}
use Rattle.cover_quotient.proofs.kept_tails.KeptColumns.{listed_pivot}
use Rattle.derivation_log.specs.Certificates.{TailLine}
use Rattle.derivation_log.specs.CertificateForms.{max_number, has_line, is_tail_line, are_tail_lines}
use Rattle.derivation_log.specs.HeldSteps.{HeldStep, held_basis}
use Rattle.derivation_log.specs.HeldLines.{pairs_of, kept_coefficient, tail_line, tail_lines, pivot_columns, IsTold}
use Rattle.derivation_log.proofs.PairForms.{both_true, number_from, pairs-are, pairs-at_most, pairs-kept, no_pair}

-- which columns have a line
pub tails_of_lines : (p : ℕ) (bs : List BasisRow) (ts : List ℕ) → map (λ (l : TailLine). l.tail) (map (tail_line p bs) ts) ≡ ts
tails_of_lines p bs [] = refl
tails_of_lines p bs (t ∷ ts) = ap (λ (us : List ℕ). t ∷ us) (tails_of_lines p bs ts)

neither : (a b : Bool) → a ≡ false → b ≡ false → (a || b) ≡ false
neither a b h k = ap₂ (λ (x y : Bool). x || y) h k

pub not_listed : (test : ℕ → Bool) (k : ℕ) → test k ≡ false → (xs : List ℕ) → is_listed k (filter test xs) ≡ false
not_listed test k fails [] = refl
not_listed test k fails (x ∷ xs) =
    cond_both (test x) (x ∷ filter test xs) (filter test xs) (λ (l : List ℕ). is_listed k l ≡ false)
    (λ passes. neither (eqb k x) (is_listed k (filter test xs))
    (ne_eqb k x (λ same. let t : false ≡ true = sym fails ∙ ap test same ∙ passes in cc)) (not_listed test k fails xs))
    (λ other. not_listed test k fails xs)

no_line : (p width : ℕ) (bs : List BasisRow) (k : ℕ) → (IsPivot k bs → ⊥) → has_line (tail_lines p width bs) k ≡ false
no_line p width bs k none =
    ap (is_listed k) (tails_of_lines p bs (pivot_columns width bs))
    ∙ not_listed (λ t. is_listed t (pivots_of bs)) k (false_from_ne_true (is_listed k (pivots_of bs)) (λ e. none (listed_pivot k bs e)))
    (numbers_from 1 width)

-- coefficients of a row
module _ (p t : ℕ) (row : List ℕ) (some : 0 < p) where
  pub kept-below : (c : ℕ) → kept_coefficient p t row c < p
  kept-below c =
      cond_both (eqb c t) 0 (negative p (at_column row c)) (λ (x : ℕ). x < p) (λ e. some) (λ e. mod-lt (p - at_column row c) some)

  kept-some : (c : ℕ) → kept_coefficient p t row c ≢ 0 → (c ≢ t) × (at_column row c ≢ 0)
  kept-some c nonzero = (
    λ same. nonzero (ap (λ (b : Bool). cond b 0 (negative p (at_column row c))) (eq-eqb c t same)),
    λ none. nonzero (both_zero none),
  ) where
    both_zero : at_column row c ≡ 0 → kept_coefficient p t row c ≡ 0
    both_zero none =
        let whole : p - 0 ≡ p = omega arith in
        cond_both (eqb c t) 0 (negative p (at_column row c)) (λ (x : ℕ). x ≡ 0) (λ e. refl)
        (λ e. ap (λ (x : ℕ). (p - x) % p) none ∙ ap (λ (x : ℕ). x % p) whole ∙ mod_self p)

some_pair : (pairs : List (ℕ × ℕ)) → (pairs ≡ [] → ⊥) → ltb 0 (length pairs) ≡ true
some_pair [] none = absurd (none refl)
some_pair (a ∷ pairs) none = lt-ltb 0 (length (a ∷ pairs)) (omega arith)

after-pivot : (t k : ℕ) → k ≢ t → (k < t → ⊥) → t < k
after-pivot t k ne not_before = elim (cases_lt t k) [
  | inl h ↦ h
  | inr h ↦ elim (cases_lt k t) [ inl before ↦ absurd (not_before before) | inr after ↦ absurd (ne (omega arith)) ]
]

one-not_zero : (n : ℕ) → suc n ≡ zero → ⊥
one-not_zero n h = cc

-- lines of pivots in a range rise
lines_rise : (p m : ℕ) (bs : List BasisRow) (all : List TailLine) (n a least : ℕ) → least ≤ a → a + n ≤ suc max_number
    → ((t : ℕ) → a ≤ t → t < a + n → is_listed t (pivots_of bs) ≡ true → is_tail_line p m all (tail_line p bs t) ≡ true)
    → are_tail_lines p m all least (map (tail_line p bs) (filter (λ t. is_listed t (pivots_of bs)) (numbers_from a n))) ≡ true
lines_rise p m bs all zero a least l h each = refl
lines_rise p m bs all (suc n) a least l h each =
    let rest : List ℕ = filter (λ t. is_listed t (pivots_of bs)) (numbers_from (suc a) n) in
    cond_both (is_listed a (pivots_of bs)) (a ∷ rest) rest (λ (ts : List ℕ). are_tail_lines p m all least (map (tail_line p bs) ts) ≡ true)
    (λ here. both_true (number_from least a l (omega arith))
    (both_true (each a (omega arith) (omega arith) here)
    (lines_rise p m bs all n (suc a) (suc a) (omega arith) (omega arith) (λ t g u. each t (omega arith) (omega arith)))))
    (λ other. lines_rise p m bs all n (suc a) least (omega arith) (omega arith) (λ t g u. each t (omega arith) (omega arith)))

module _ (s : HeldStep) (told : IsTold s) where
  module _ (t : ℕ) (pivot : IsPivot t s.rows) where
    columns-kept : (k : ℕ) → kept_coefficient s.prime t (at_pivot t s.rows).row k ≢ 0
        → (k < t) × (has_line (tail_lines s.prime s.width s.rows) k ≡ false)
    columns-kept k nonzero =
        let two = told.basis.prime in
        let found = row_found (held_basis s) told.basis t pivot in
        let ne = kept-some s.prime t (at_pivot t s.rows).row (omega arith) k nonzero in (
          elim (cases_lt k t) [
            | inl before ↦ before
            | inr after ↦ absurd
                (ne.1 (found.pivot_row.last.zero_after k
                (subst (λ (c : ℕ). c < k) (sym found.at) (after-pivot t k ne.0 (λ before. omega (arith, before, after))))))
          ],
          no_line s.prime s.width s.rows k (λ another. ne.1 (found.others k another ne.0)),
        )

    some_coefficient : pairs_of (at_column (at_pivot t s.rows).coefficients) (numbers_from 1 (length (at_pivot t s.rows).coefficients))
        ≡ [] → ⊥
    some_coefficient none =
        let two = told.basis.prime in
        let found = row_found (held_basis s) told.basis t pivot in
        let sum = sum_found (held_basis s) told.basis t pivot in
        let cs : List ℕ = (at_pivot t s.rows).coefficients in
        let all_zero : IsZeroRow cs =
        IsZeroRow-from_entries cs (λ k l.
        let place : suc k - 1 ≡ k = omega arith in
        ap (λ (i : ℕ). get_or cs i 0) (sym place) ∙ no_pair (at_column cs) (length cs) 1 none (suc k) (omega arith) (omega arith)) in
        let row_zero : (at_pivot t s.rows).row ≡ zeros s.width =
        sym sum.sum ∙ ap (λ (xs : List ℕ). combine s.prime s.width xs s.added) (IsZeroRow-is_zeros cs all_zero)
        ∙ combine-zeros s.prime s.width (length cs) s.added (omega arith) told.basis.added in
        let one : 1 ≡ 0 =
        sym found.pivot_row.one ∙ ap (λ (xs : List ℕ). at_column xs (at_pivot t s.rows).pivot) row_zero
        ∙ at_column-zeros s.width (at_pivot t s.rows).pivot in
        one-not_zero 0 one

    line-is : is_tail_line s.prime (length s.sources) (tail_lines s.prime s.width s.rows) (tail_line s.prime s.rows t) ≡ true
    line-is =
        let two = told.basis.prime in
        let found = row_found (held_basis s) told.basis t pivot in
        let sum = sum_found (held_basis s) told.basis t pivot in
        let row : List ℕ = (at_pivot t s.rows).row in
        let cs : List ℕ = (at_pivot t s.rows).coefficients in
        let wide : length row ≡ s.width = found.pivot_row.fits.count in
        let long : length cs ≡ length s.added = sum.fits.count in
        let width = told.width in
        let few = told.few in
        let sources = told.sources in
        both_true
        (pairs-are (kept_coefficient s.prime t row) s.prime (length row) 1 1 (omega arith) (omega arith)
        (λ k l m. kept-below s.prime t row (omega arith) k))
        (both_true
        (pairs-kept (kept_coefficient s.prime t row) (tail_lines s.prime s.width s.rows) t (length row) 1
        (λ k l m nonzero. columns-kept k nonzero))
        (both_true (some_pair (pairs_of (at_column cs) (numbers_from 1 (length cs))) some_coefficient)
        (both_true
        (pairs-are (at_column cs) s.prime (length cs) 1 1 (omega arith) (omega arith)
        (λ k l m. at_column-below s.prime cs k (omega arith) sum.fits.below))
        (pairs-at_most (at_column cs) (length s.sources) (length cs) 1 (omega arith)))))

  -- the lines of a step may stand in a certificate
  pub lines-are : are_tail_lines s.prime (length s.sources) (tail_lines s.prime s.width s.rows) 1 (tail_lines s.prime s.width s.rows) ≡ true
  lines-are =
      let width = told.width in
      lines_rise s.prime (length s.sources) s.rows (tail_lines s.prime s.width s.rows) s.width 1 1 (omega arith) (omega arith)
      (λ t l m listed. line-is t (listed_pivot t s.rows listed))
