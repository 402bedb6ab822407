-- What the lines of a step make of the tails: a tail with a line becomes its pairs, a kept tail becomes itself, and each row is one over
-- the kept tails.
use Rattle.std.proofs.Common.{◌≡◌, ◌≢◌, ◌<◌, ◌≤◌, ◌+◌, ◌-◌, ℕ, zero, suc, Bool, false, cond, eqb, ◌||◌, List, [], ◌∷◌, ◌++◌, get_or, length}
use Rattle.std.proofs.Common.{map, filter, not, refl, ap, ap₂, sym, ◌∙◌, subst, arith, inl, inr, eq-eqb, ne_eqb, ⊎_elim}
use Rattle.std.specs.List.{All}
use Rattle.std.specs.List.Sorted.{IsStrictlyIncreasing}
use Rattle.std.proofs.lemmas.Bool.{cases_eq, cases_lt, cond_both, false_from_ne_true, false≢true}
use Rattle.std.proofs.lemmas.Grind.{same_number_lists}
use Rattle.std.proofs.lemmas.List.{get_or-map, length-map, map-append}
use Rattle.std.proofs.lemmas.List.Kept.{AllPairs-from_increasing}
use Rattle.pq_base.specs.Limits.{max_rank}
use Rattle.pq_base.specs.Table.{AllBelow}
use Rattle.pq_base.specs.Canonical.{numbers_from}
use Rattle.pq_base.proofs.NumberLists.{length-numbers_from, get_or-map_numbers, numbers-more}
use Rattle.fp_rows.specs.Row.{at_column}
use Rattle.fp_rows.specs.Rows.{IsRow}
use Rattle.fp_rows.proofs.EntryLaws.{at_column-below}
use Rattle.fp_echelon.specs.Reduced.{BasisRow, pivots_of}
use Rattle.pc_presentation.specs.Pcp.{unit_row}
use Rattle.pc_presentation.specs.Syllable.{syllables_of, spread, AreSyllables}
use Rattle.pc_presentation.proofs.presentations.SyllableLaws.{spread-syllables_of, AreSyllables-syllables_of}
use Rattle.pc_presentation.proofs.rows.TailRowLaws.{length-unit_row}
use Rattle.p_cover.specs.Covers.{CoverOf}
use Rattle.cover_quotient.specs.Kept.{is_listed, kept_columns, entries_at}
use Rattle.cover_quotient.specs.Combinations.{AreCombinationsOf, AreKept}
use Rattle.cover_quotient.specs.NextParts.{IsPlace}
use Rattle.cover_quotient.proofs.carried_rows.UnitRows.{IsRow-unit_row, unit_row-one, unit_row-other, at_column-unit_row}
use Rattle.cover_quotient.proofs.carried_rows.UnitRows.{at_column-unit_row_other}
use Rattle.cover_quotient.proofs.kept_tails.KeptColumns.{IsKept, listed_pivot, all_kept, kept_columns_rise}
use Rattle.derivation_log.specs.Certificates.{TailLine, StepLines}
use Rattle.derivation_log.specs.CertificateRuns.{coefficient_in, row_of_pairs, tail_row, combinations_in}
use Rattle.derivation_log.proofs.PairRows.{AllBelow-from_entries}
use Rattle.cert_checker.specs.SumLines.{IsLineOver}
use Rattle.cert_checker.specs.KeptTails.{tails_of, kept_tails, kept_row, IsLineOf}
use Rattle.cert_checker.proofs.summing.PairSums.{pairs-row}

-- the tails of lines as pivots
abbrev as_rows : List TailLine → List BasisRow
as_rows lines = map (λ (l : TailLine). record { pivot = l.tail; row = []; coefficients = [] }) lines

as_pivots : (lines : List TailLine) → pivots_of (as_rows lines) ≡ tails_of lines
as_pivots [] = refl
as_pivots (l ∷ lines) = ap (λ (ts : List ℕ). l.tail ∷ ts) (as_pivots lines)

map_agree : (f g : ℕ → ℕ) (xs : List ℕ) → ((k : ℕ) → k < length xs → f (get_or xs k 0) ≡ g (get_or xs k 0)) → map f xs ≡ map g xs
map_agree f g [] same = refl
map_agree f g (x ∷ xs) same =
    ap₂ (λ (y : ℕ) (ys : List ℕ). y ∷ ys) (same zero (omega arith)) (map_agree f g xs (λ k l. same (suc k) (omega arith)))

module _ (width : ℕ) (lines : List TailLine) where
  abbrev K : List ℕ
  K = kept_tails width lines

  same_tails : kept_columns width (as_rows lines) ≡ kept_tails width lines
  same_tails = ap (λ (ts : List ℕ). filter (λ t. not (is_listed t ts)) (numbers_from 1 width)) (as_pivots lines)

  -- a tail that is kept
  pub record IsKeptTail (t : ℕ) : Type 0 where
    pub first : 1 ≤ t
    pub last : t ≤ width
    pub none : is_listed t (tails_of lines) ≡ false

  pub kept-at : (k : ℕ) (d : ℕ) → k < length (kept_tails width lines) → IsKeptTail (get_or (kept_tails width lines) k d)
  kept-at k d l =
      let is = subst (All (IsKept width (as_rows lines))) same_tails (all_kept width (as_rows lines)) k d l in
      record {
        first = is.first;
        last = is.last;
        none = false_from_ne_true (is_listed (get_or K k d) (tails_of lines)) (λ e.
            is.no_pivot (listed_pivot (get_or K k d) (as_rows lines)
            (ap (is_listed (get_or K k d)) (as_pivots lines) ∙ e)));
      }

  kept-apart : (i j : ℕ) → i < length K → j < length K → i ≢ j → get_or K i 0 ≢ get_or K j 0
  kept-apart i j l m ne e =
      let pairs = AllPairs-from_increasing K (subst IsStrictlyIncreasing same_tails (kept_columns_rise width (as_rows lines))) in
      ⊎_elim (λ before. let h = pairs i j 0 before m in omega arith)
      (λ not_before. let h = pairs j i 0 (omega arith) l in omega arith) (cases_lt i j)

  -- a tail without a line has its own row
  pub row-without_line : (ls : List TailLine) (t : ℕ) → is_listed t (tails_of ls) ≡ false → tail_row width ls t ≡ unit_row width t
  row-without_line [] t h = refl
  row-without_line (l ∷ ls) t h =
      let here : List ℕ = row_of_pairs width l.kept in
      let later : List ℕ = tail_row width ls t in
      elim (cases_eq l.tail t) [
        | inl same ↦ absurd (false≢true (sym h ∙ ap (λ (b : Bool). b || is_listed t (tails_of ls)) (eq-eqb t l.tail (sym same))))
        | inr other ↦
            ap (λ (b : Bool). cond b here later) (ne_eqb l.tail t other)
            ∙ row-without_line ls t (sym (ap (λ (b : Bool). b || is_listed t (tails_of ls)) (ne_eqb t l.tail (λ e. other (sym e)))) ∙ h)
      ]

  -- the entries of pairs, and of a tail, at the kept tails
  pub word-of_pairs : (pairs : List (ℕ × ℕ)) → map (coefficient_in pairs) (kept_tails width lines)
      ≡ entries_at (kept_tails width lines) (row_of_pairs width pairs)
  word-of_pairs pairs =
      map_agree (coefficient_in pairs) (at_column (row_of_pairs width pairs)) K (λ k l.
      let is = kept-at k 0 l in
      let first = is.first in
      let last = is.last in
      let t : ℕ = get_or K k 0 in
      let place : 1 + (t - 1) ≡ t = omega arith in
      sym (get_or-map_numbers (coefficient_in pairs) 1 width (t - 1) 0 (omega arith) ∙ ap (coefficient_in pairs) place))

  pub word-of_unit : (t : ℕ) → map (λ c. cond (eqb t c) 1 0) (kept_tails width lines)
      ≡ entries_at (kept_tails width lines) (unit_row width t)
  word-of_unit t =
      map_agree (λ c. cond (eqb t c) 1 0) (at_column (unit_row width t)) K (λ k l.
      let is = kept-at k 0 l in
      elim (cases_eq t (get_or K k 0)) [
        | inl same ↦
            ap (λ (b : Bool). cond b 1 0) (eq-eqb t (get_or K k 0) same)
            ∙ sym (ap (λ (c : ℕ). at_column (unit_row width c) (get_or K k 0)) same ∙ at_column-unit_row width (get_or K k 0) is.first
            is.last)
        | inr other ↦
            ap (λ (b : Bool). cond b 1 0) (ne_eqb t (get_or K k 0) other)
            ∙ sym (at_column-unit_row_other width t (get_or K k 0) is.first other)
      ])

  pub word-with_line : (t : ℕ) (l : TailLine) → IsLineOf lines t l → (kept : List ℕ) → kept ≡ kept_tails width lines
      → (pairs : List (ℕ × ℕ)) → pairs ≡ l.kept → syllables_of 0 (map (coefficient_in pairs) kept) ≡ syllables_of 0 (kept_row width lines t)
  word-with_line t l is kept kept_is pairs pairs_are =
      ap (syllables_of 0)
      (ap₂ (λ (ps : List (ℕ × ℕ)) (ts : List ℕ). map (coefficient_in ps) ts) pairs_are kept_is
      ∙ word-of_pairs l.kept ∙ ap (entries_at K) (sym (is.row width)))

  pub word-without_line : (t : ℕ) → is_listed t (tails_of lines) ≡ false → (kept : List ℕ) → kept ≡ kept_tails width lines
      → syllables_of 0 (map (λ c. cond (eqb t c) 1 0) kept) ≡ syllables_of 0 (kept_row width lines t)
  word-without_line t none kept kept_is =
      ap (syllables_of 0)
      (ap (map (λ c. cond (eqb t c) 1 0)) kept_is ∙ word-of_unit t ∙ ap (entries_at K) (sym (row-without_line lines t none)))

  -- a kept tail becomes itself
  entries-of_unit : (i : ℕ) → i < length K → entries_at K (unit_row width (get_or K i 0)) ≡ unit_row (length K) (suc i)
  entries-of_unit i l =
      let c : ℕ = get_or K i 0 in
      let x : List ℕ = unit_row width c in
      let long : length (entries_at K x) ≡ length K = length-map K (at_column x) in
      let at = kept-at i 0 l in
      same_number_lists (entries_at K x) (unit_row (length K) (suc i)) (long ∙ sym (length-unit_row (length K) (suc i))) (λ k m.
      let within : k < length K = omega (arith, m, long) in
      get_or-map (at_column x) K k 0 0 within
      ∙ ⊎_elim
      (λ same.
      ap (λ (j : ℕ). at_column x (get_or K j 0)) same ∙ at_column-unit_row width c at.first at.last
      ∙ sym (ap (λ (j : ℕ). get_or (unit_row (length K) (suc i)) j 0) same ∙ unit_row-one (length K) i l))
      (λ ne.
      at_column-unit_row_other width c (get_or K k 0) (kept-at k 0 within).first (kept-apart i k l within (λ e. ne (sym e)))
      ∙ sym (unit_row-other (length K) (suc i) k (λ e. ne (omega arith))))
      (cases_eq k i))

  -- the row of a tail
  module _ (p n : ℕ) (some : 1 < p) where
    tail_row-row : (ls : List TailLine) (t : ℕ) → All (IsLineOver p n) ls → IsRow p width (tail_row width ls t)
    tail_row-row [] t all = IsRow-unit_row p width t some
    tail_row-row (l ∷ ls) t all =
        let line = all zero l (omega arith) in
        cond_both (eqb l.tail t) (row_of_pairs width l.kept) (tail_row width ls t) (λ (xs : List ℕ). IsRow p width xs)
        (λ here. pairs-row p (l.tail - 1) width l.kept (omega arith) line.kept)
        (λ other. tail_row-row ls t (λ k d m. all (suc k) d (omega arith)))

    module _ (all : All (IsLineOver p n) lines) (t : ℕ) where
      kept_row-below : AllBelow p (kept_row width lines t)
      kept_row-below =
          let long = length-map K (at_column (tail_row width lines t)) in
          AllBelow-from_entries p (kept_row width lines t) (λ i l.
          subst (λ (x : ℕ). x < p) (sym (get_or-map (at_column (tail_row width lines t)) K i 0 0 (omega (arith, l, long))))
          (at_column-below p (tail_row width lines t) (get_or K i 0) (omega arith) (tail_row-row lines t all).below))

      pub kept_row-word : AreSyllables p (length (kept_tails width lines)) 0 (syllables_of 0 (kept_row width lines t))
      kept_row-word =
          let long = length-map K (at_column (tail_row width lines t)) in
          AreSyllables-syllables_of p (length K) 0 (kept_row width lines t) (omega arith) kept_row-below

  pub kept_row-spread : (t : ℕ) → spread (length (kept_tails width lines)) 0 (syllables_of 0 (kept_row width lines t))
      ≡ kept_row width lines t
  kept_row-spread t =
      ap (λ (n : ℕ). spread n 0 (syllables_of 0 (kept_row width lines t))) (sym (length-map K (at_column (tail_row width lines t))))
      ∙ spread-syllables_of 0 (kept_row width lines t)

  pub kept_rows-more : (t : ℕ) → map (kept_row width lines) (numbers_from 1 (t + 1))
      ≡ map (kept_row width lines) (numbers_from 1 t) ++ kept_row width lines (t + 1) ∷ []
  kept_rows-more t =
      ap (map (kept_row width lines)) (numbers-more t) ∙ map-append (kept_row width lines) (numbers_from 1 t) ((t + 1) ∷ [])

-- of a cover
module _ (C : CoverOf) (s : StepLines) where
  pub lines-are_combinations : C.answer.presentation.rank + length (kept_tails (length C.sources) s.tails) ≤ max_rank
      → AreCombinationsOf C (combinations_in C s)
  lines-are_combinations limit = record {
    prime = refl;
    count = length-map (numbers_from 1 (length C.sources)) (kept_row (length C.sources) s.tails)
        ∙ length-numbers_from 1 (length C.sources);
    limit = limit;
  }

  pub lines-keep : AreKept (combinations_in C s)
  lines-keep k l =
      let width : ℕ = length C.sources in
      let t : ℕ = get_or (kept_tails width s.tails) k 0 in
      let is = kept-at width s.tails k 0 l in
      let first = is.first in
      let last = is.last in
      let count = length-map (numbers_from 1 width) (kept_row width s.tails) in
      let numbers = length-numbers_from 1 width in
      let place : 1 + (t - 1) ≡ t = omega arith in
      record {
        first = first;
        last = omega arith;
        itself = get_or-map_numbers (kept_row width s.tails) 1 width (t - 1) [] (omega arith)
            ∙ ap (kept_row width s.tails) place
            ∙ ap (entries_at (kept_tails width s.tails)) (row-without_line width s.tails s.tails t is.none)
            ∙ entries-of_unit width s.tails k l;
      }

  -- a kept tail is one of the cover
  pub kept-places : All (IsPlace C.sources) (kept_tails (length C.sources) s.tails)
  kept-places k d l = let is = kept-at (length C.sources) s.tails k d l in record { first = is.first; last = is.last }
