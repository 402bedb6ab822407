-- What the conditions of a certificate say of a step: its sources name relators that are there, and its lines have numbers in range.
use Rattle.std.proofs.Common.{◌≡◌, ◌↔◌, ◌<◌, ◌≤◌, ◌-◌, ℕ, zero, suc, true, not, leb, ltb, ◌&&◌, List, [], ◌∷◌, get_or, length, arith}
use Rattle.std.specs.List.{All}
use Rattle.std.proofs.lemmas.Bool.{and_parts, false≢true, leb-true, ltb-true}
use Rattle.std.proofs.lemmas.List.Elements.{All-nil, All-cons}
use Rattle.pq_base.specs.LPresentation.{LPresentation, AreEndoNumbers}
use Rattle.pc_presentation.specs.Collection.{State, plain_push}
use Rattle.pc_presentation.specs.Tailed.{rowed_presentation}
use Rattle.p_cover.specs.Covers.{CoverOf, cover_presentation}
use Rattle.derivation_log.specs.declared.source.RowSource.{RowSource}
use Rattle.derivation_log.specs.declared.source.RowSource.TheVariants as source
use Rattle.derivation_log.specs.declared.source.Run.{Run}
use Rattle.derivation_log.specs.declared.source.Run.TheVariants.{Iterated, Whole}
use Rattle.derivation_log.specs.RowSources.{IsRowOf, AreRowsOf}
use Rattle.derivation_log.specs.Certificates.{TailLine, StepLines, Certificate, steps_of, step_of, presentation_of}
use Rattle.derivation_log.specs.CertificateForms.{max_number, is_number_from, are_pairs, are_at_most, has_line, are_kept_below}
use Rattle.derivation_log.specs.CertificateForms.{is_tail_line, are_tail_lines, is_one_of, are_each_one_of, is_source_in, are_sources_in}
use Rattle.derivation_log.specs.CertificateForms.{are_steps_in, IsCertificate}
use Rattle.derivation_log.specs.CertificateParts.{HasPlainRow}
use Rattle.cert_checker.specs.StepRows.{NamesRelator}
use Rattle.cert_checker.specs.SumLines.{ArePairs, IsLineOver}

from-to : (least n : ℕ) → is_number_from least n ≡ true → least ≤ n
from-to least n h = leb-true least n (and_parts (leb least n) (leb n max_number) h).0

-- pairs of sources
pairs-of_sources : (p least n : ℕ) (pairs : List (ℕ × ℕ)) → are_pairs p least pairs ≡ true → are_at_most n pairs ≡ true
    → ArePairs p least n pairs
pairs-of_sources p least n [] form most = tt
pairs-of_sources p least n (a ∷ pairs) form most =
    let tests = and_parts (is_number_from least a.0) (leb 1 a.1 && (ltb a.1 p && are_pairs p (suc a.0) pairs)) form in
    let small = and_parts (ltb a.1 p) (are_pairs p (suc a.0) pairs)
    (and_parts (leb 1 a.1) (ltb a.1 p && are_pairs p (suc a.0) pairs) tests.1).1 in
    let bounds = and_parts (leb a.0 n) (are_at_most n pairs) most in
    (from-to least a.0 tests.0, leb-true a.0 n bounds.0, ltb-true a.1 p small.0, pairs-of_sources p (suc a.0) n pairs small.1 bounds.1)

-- pairs of tails below one
pairs-of_tails : (p least u : ℕ) (lines : List TailLine) (pairs : List (ℕ × ℕ)) → are_pairs p least pairs ≡ true
    → are_kept_below lines u pairs ≡ true → ArePairs p least (u - 1) pairs
pairs-of_tails p least u lines [] form below = tt
pairs-of_tails p least u lines (a ∷ pairs) form below =
    let tests = and_parts (is_number_from least a.0) (leb 1 a.1 && (ltb a.1 p && are_pairs p (suc a.0) pairs)) form in
    let small = and_parts (ltb a.1 p) (are_pairs p (suc a.0) pairs)
    (and_parts (leb 1 a.1) (ltb a.1 p && are_pairs p (suc a.0) pairs) tests.1).1 in
    let bounds = and_parts (ltb a.0 u) (not (has_line lines a.0) && are_kept_below lines u pairs) below in
    let rest = and_parts (not (has_line lines a.0)) (are_kept_below lines u pairs) bounds.1 in
    let less = ltb-true a.0 u bounds.0 in
    (from-to least a.0 tests.0, omega arith, ltb-true a.1 p small.0, pairs-of_tails p (suc a.0) u lines pairs small.1 rest.1)

-- lines
module _ (p n : ℕ) (lines : List TailLine) where
  line-over : (l : TailLine) → 1 ≤ l.tail → is_tail_line p n lines l ≡ true → IsLineOver p n l
  line-over l first form =
      let kept = and_parts (are_pairs p 1 l.kept) (are_kept_below lines l.tail l.kept
      && (ltb 0 (length l.sums) && (are_pairs p 1 l.sums && are_at_most n l.sums))) form in
      let rest = and_parts (are_kept_below lines l.tail l.kept)
      (ltb 0 (length l.sums) && (are_pairs p 1 l.sums && are_at_most n l.sums)) kept.1 in
      let sums = and_parts (ltb 0 (length l.sums)) (are_pairs p 1 l.sums && are_at_most n l.sums) rest.1 in
      let last = and_parts (are_pairs p 1 l.sums) (are_at_most n l.sums) sums.1 in
      record {
        first = first;
        kept = pairs-of_tails p 1 l.tail lines l.kept kept.0 rest.0;
        sums = pairs-of_sources p 1 n l.sums last.0 last.1;
      }

  lines-over : (least : ℕ) (ls : List TailLine) → 1 ≤ least → are_tail_lines p n lines least ls ≡ true → All (IsLineOver p n) ls
  lines-over least [] some form = All-nil (IsLineOver p n)
  lines-over least (l ∷ ls) some form =
      let tests = and_parts (is_number_from least l.tail) (is_tail_line p n lines l && are_tail_lines p n lines (suc l.tail) ls) form in
      let rest = and_parts (is_tail_line p n lines l) (are_tail_lines p n lines (suc l.tail) ls) tests.1 in
      let first = from-to least l.tail tests.0 in
      All-cons (IsLineOver p n) l ls (line-over l (omega arith) rest.0) (lines-over (suc l.tail) ls (omega arith) rest.1)

-- sources
one-of : (n i : ℕ) → is_one_of n i ≡ true → (1 ≤ i) × (i ≤ n)
one-of n i h = let both = and_parts (leb 1 i) (leb i n) h in (leb-true 1 i both.0, leb-true i n both.1)

endo-numbers : (n : ℕ) (s : List ℕ) → are_each_one_of n s ≡ true → AreEndoNumbers n s
endo-numbers n [] h = tt
endo-numbers n (zero ∷ s) h =
    let first = (one-of n zero (and_parts (is_one_of n zero) (are_each_one_of n s) h).0).0 in absurd (omega arith)
endo-numbers n (suc e ∷ s) h =
    let both = and_parts (is_one_of n (suc e)) (are_each_one_of n s) h in
    let last = (one-of n (suc e) both.0).1 in
    (omega arith, endo-numbers n s both.1)

named : (L : LPresentation) (run : Run) (s : RowSource) → is_source_in L run s ≡ true → NamesRelator L s
named L run (source.Test o) h = tt
named L Iterated (source.Fixed i) h = absurd (false≢true h)
named L Whole (source.Fixed i) h = one-of (length L.fixed) i h
named L Iterated (source.Iterated i s) h =
    let both = and_parts (is_one_of (length L.iterated) i) (are_each_one_of (length L.endos) s) h in
    let number = one-of (length L.iterated) i both.0 in
    (number.0, number.1, endo-numbers (length L.endos) s both.1)
named L Whole (source.Iterated i s) h =
    let both = and_parts (is_one_of (length L.iterated) i) (are_each_one_of (length L.endos) s) h in
    let number = one-of (length L.iterated) i both.0 in
    (number.0, number.1, endo-numbers (length L.endos) s both.1)

pub all-named : (L : LPresentation) (run : Run) (ss : List RowSource) → are_sources_in L run ss ≡ true → All (NamesRelator L) ss
all-named L run [] h = All-nil (NamesRelator L)
all-named L run (s ∷ ss) h =
    let both = and_parts (is_source_in L run s) (are_sources_in L run ss) h in
    All-cons (NamesRelator L) s ss (named L run s both.0) (all-named L run ss both.1)

-- steps
steps-at : (L : LPresentation) (p : ℕ) (run : Run) (ss : List StepLines) (i : ℕ) (d : StepLines) → are_steps_in L p run ss ≡ true
    → i < length ss
    → (are_sources_in L run (get_or ss i d).sources ≡ true)
    × (are_tail_lines p (length (get_or ss i d).sources) (get_or ss i d).tails 1 (get_or ss i d).tails ≡ true)
steps-at L p run [] i d h l = absurd (omega arith)
steps-at L p run (s ∷ ss) zero d h l =
    let both = and_parts (are_sources_in L run s.sources)
    (are_tail_lines p (length s.sources) s.tails 1 s.tails && are_steps_in L p run ss) h in
    (both.0, (and_parts (are_tail_lines p (length s.sources) s.tails 1 s.tails) (are_steps_in L p run ss) both.1).0)
steps-at L p run (s ∷ ss) (suc i) d h l =
    let both = and_parts (are_sources_in L run s.sources)
    (are_tail_lines p (length s.sources) s.tails 1 s.tails && are_steps_in L p run ss) h in
    let rest = and_parts (are_tail_lines p (length s.sources) s.tails 1 s.tails) (are_steps_in L p run ss) both.1 in
    steps-at L p run ss i d rest.1 (omega arith)

module _ (c : Certificate) (is : IsCertificate c) where
  steps-in : (run : Run) → are_steps_in c.presentation c.prime run (steps_of c run) ≡ true
  steps-in Iterated = is.iterated_steps
  steps-in Whole = is.whole_steps

  module _ (run : Run) (k : ℕ) (first : 1 ≤ k) (last : k ≤ length (steps_of c run)) where
    pub step-sources : are_sources_in c.presentation run (step_of c run k).sources ≡ true
    step-sources =
        (steps-at c.presentation c.prime run (steps_of c run) (k - 1) (record { sources = []; tails = [] }) (steps-in run) (omega arith)).0

    pub step-lines : All (IsLineOver c.prime (length (step_of c run k).sources)) (step_of c run k).tails
    step-lines =
        lines-over c.prime (length (step_of c run k).sources) (step_of c run k).tails 1 (step_of c run k).tails (omega arith)
        (steps-at c.presentation c.prime run (steps_of c run) (k - 1) (record { sources = []; tails = [] }) (steps-in run) (omega arith)).1

-- the part without fixed relators has the rows of the whole
module _ (c : Certificate) (C : CoverOf) where
  abbrev push : State → ℕ → State
  push = plain_push (rowed_presentation (cover_presentation C))

  row-in_run : (run : Run) (s : RowSource) (x : List ℕ) → is_source_in c.presentation run s ≡ true
      → (IsRowOf c.presentation C push s x ↔ IsRowOf (presentation_of c run) C push s x)
  row-in_run Whole s x h = ((λ r. r), (λ r. r))
  row-in_run Iterated (source.Test o) x h = (
    (λ r. record { numbers = r.numbers; row = r.row }),
    (λ r. record { numbers = r.numbers; row = r.row }),
  )
  row-in_run Iterated (source.Fixed i) x h = absurd (false≢true h)
  row-in_run Iterated (source.Iterated i s) x h = (
    (λ r. record { numbers = r.numbers; row = r.row }),
    (λ r. record { numbers = r.numbers; row = r.row }),
  )

  has-row : (run : Run) (s : RowSource) → is_source_in c.presentation run s ≡ true
      → (HasPlainRow c.presentation C s ↔ HasPlainRow (presentation_of c run) C s)
  has-row run s h = (
    (λ r. record { row = r.row; is = (row-in_run run s r.row h).0 r.is }),
    (λ r. record { row = r.row; is = (row-in_run run s r.row h).1 r.is }),
  )

  pub have-rows : (run : Run) (ss : List RowSource) → are_sources_in c.presentation run ss ≡ true
      → (All (HasPlainRow c.presentation C) ss ↔ All (HasPlainRow (presentation_of c run) C) ss)
  have-rows run [] h = ((λ all. All-nil (HasPlainRow (presentation_of c run) C)), (λ all. All-nil (HasPlainRow c.presentation C)))
  have-rows run (s ∷ ss) h =
      let both = and_parts (is_source_in c.presentation run s) (are_sources_in c.presentation run ss) h in
      let one = has-row run s both.0 in
      let others = have-rows run ss both.1 in (
        (λ all. All-cons (HasPlainRow (presentation_of c run) C) s ss (one.0 (all zero s (omega arith)))
            (others.0 (λ k d l. all (suc k) d (omega arith)))),
        (λ all. All-cons (HasPlainRow c.presentation C) s ss (one.1 (all zero s (omega arith)))
            (others.1 (λ k d l. all (suc k) d (omega arith)))),
      )

  pub are-rows : (run : Run) (ss : List RowSource) (xs : List (List ℕ)) → are_sources_in c.presentation run ss ≡ true
      → AreRowsOf c.presentation C push ss xs → AreRowsOf (presentation_of c run) C push ss xs
  are-rows run [] [] h rows = tt
  are-rows run [] (x ∷ xs) h rows = absurd rows
  are-rows run (s ∷ ss) [] h rows = absurd rows
  are-rows run (s ∷ ss) (x ∷ xs) h rows =
      let both = and_parts (is_source_in c.presentation run s) (are_sources_in c.presentation run ss) h in
      ((row-in_run run s x both.0).0 rows.0, are-rows run ss xs both.1 rows.1)
