-- A canonical text has far fewer bytes than the reader may be given: a letter costs at most 40 of them, and a line and an
-- arrow a few more.
use Rattle.std.proofs.Common.{◌≡◌, ◌≤◌, ◌+◌, ◌*◌, ℕ, zero, suc, Bool, true, false, List, [], ◌∷◌, ◌++◌, All, codes, decimal, length, map}
use Rattle.std.proofs.Common.{sum_by, ap, arith, length-append}
use Rattle.std.specs.Prelude.{ℤ, pos, negsuc, unsigned_abs, ◌==◌, if◌then◌else◌}
use Rattle.std.specs.Ordering.{int_eq}
use Rattle.std.proofs.lemmas.Fmt.{length-decimal-le}
use Rattle.std.proofs.lemmas.List.Elements.{All-head, All-tail}
use Rattle.std.proofs.lemmas.List.Sums.{sum_by-cons}
use Rattle.pq_base.specs.LPresentation.{AreEndos}
use Rattle.pq_base.specs.Name.{name_text}
use Rattle.pq_base.specs.Lines.{text_of_lines}
use Rattle.pq_base.proofs.LineLaws.{text_of_lines-append}
use Rattle.lpres_reader.specs.declared.canonical.Run.{Run}
use Rattle.lpres_reader.specs.Runs.{onto_run, onto_runs, runs_of}
use Rattle.lpres_reader.specs.CanonicalText.{preceded, exponent_text, run_text, runs_text, word_text, generators_line, relator_lines}
use Rattle.lpres_reader.specs.CanonicalText.{arrow_text, arrow_texts, endo_line, endo_lines, canonical_text}
use Rattle.lpres_reader.specs.Limits.{AreShort, letters_in}
use Rattle.lpres_reader.specs.ReaderLaws.{CanonicalTextsAreShort}
use Rattle.lpres_reader.proofs.canonical_texts.RunWords.{sizes, sizes-runs_of}

-- there are at most as many runs as letters
length-onto_run : (b : Bool) (k : ℤ) (r : Run) (rs : List Run) → length (onto_run b k r rs) ≤ suc (suc (length rs))
length-onto_run true k r rs = omega arith
length-onto_run false k r rs = omega arith

length-onto_runs : (k : ℤ) (rs : List Run) → length (onto_runs k rs) ≤ suc (length rs)
length-onto_runs k [] = omega arith
length-onto_runs k (r ∷ rs) = length-onto_run (int_eq k r.letter) k r rs

length-runs_of : (w : List ℤ) → length (runs_of w) ≤ length w
length-runs_of [] = omega arith
length-runs_of (k ∷ w) = omega (arith, length-onto_runs k (runs_of w), length-runs_of w)

abbrev AreShortNames : List (List ℕ) → Type 0
AreShortNames names = All (λ n. length n ≤ 32) names

length-name_text : (names : List (List ℕ)) (i : ℕ) → AreShortNames names → length (name_text names i) ≤ 32
length-name_text names zero h = omega arith
length-name_text [] (suc i) h = omega arith
length-name_text (n ∷ names) (suc zero) h = All-head (λ m. length m ≤ 32) n names h
length-name_text (n ∷ names) (suc (suc i)) h = length-name_text names (suc i) (All-tail (λ m. length m ≤ 32) n names h)

length-exponent_text : (k : ℤ) (n : ℕ) → n ≤ 65536 → length (exponent_text k n) ≤ 7
length-exponent_text (negsuc k) n h =
    let digits : length (decimal n) ≤ 5 = length-decimal-le 5 n (omega arith) (omega arith) (omega arith) in omega arith
length-exponent_text (pos k) n h = by (n == 1) (length-decimal-le 5 n (omega arith) (omega arith) (omega arith))
  where
    by : (b : Bool) → length (decimal n) ≤ 5 → length (if b then [] else codes "^" ++ decimal n) ≤ 7
    by true digits = omega arith
    by false digits = omega arith

module _ (names : List (List ℕ)) (named : AreShortNames names) where
  length-run_text : (r : Run) → r.size ≤ 65536 → length (run_text names r) ≤ 39
  length-run_text r h =
      omega (
        arith,
        length-append (name_text names (unsigned_abs r.letter)) (exponent_text r.letter r.size),
        length-name_text names (unsigned_abs r.letter) named,
        length-exponent_text r.letter r.size h,
      )

  length-further : (rs : List Run) → sizes rs ≤ 65536 → length (preceded (codes "*") (map (run_text names) rs)) ≤ 40 * length rs
  length-further [] h = omega arith
  length-further (r ∷ rs) h =
      omega (
        arith,
        length-append (run_text names r) (preceded (codes "*") (map (run_text names) rs)),
        length-run_text r (omega arith),
        length-further rs (omega arith),
      )

  length-runs_text : (rs : List Run) → sizes rs ≤ 65536 → length (runs_text names rs) ≤ 40 * length rs + 1
  length-runs_text [] h = omega arith
  length-runs_text (r ∷ rs) h =
      omega (
        arith,
        length-append (run_text names r) (preceded (codes "*") (map (run_text names) rs)),
        length-run_text r (omega arith),
        length-further rs (omega arith),
      )

  length-word_text : (w : List ℤ) → length w ≤ 65536 → length (word_text names w) ≤ 40 * length w + 1
  unfolding word_text
  length-word_text w h = omega (arith, length-runs_text (runs_of w) (omega (arith, sizes-runs_of w)), length-runs_of w)

  length-relators : (keyword : List ℕ) (ws : List (List ℤ)) → length keyword ≤ 9 → AreShort ws
      → length (text_of_lines (relator_lines keyword names ws)) ≤ 11 * length ws + 40 * letters_in ws
  length-relators keyword [] h short = omega arith
  length-relators keyword (w ∷ ws) h short =
      let one : length (word_text names w) ≤ 40 * length w + 1 = length-word_text w (All-head (λ v. length v ≤ 65536) w ws short) in
      let others = length-relators keyword ws h (All-tail (λ v. length v ≤ 65536) w ws short) in
      omega (
        arith,
        length-append (keyword ++ word_text names w) (10 ∷ text_of_lines (relator_lines keyword names ws)),
        length-append keyword (word_text names w),
        one,
        others,
        sum_by-cons length w ws,
      )

  length-arrow_text : (i : ℕ) (w : List ℤ) → length w ≤ 65536 → length (arrow_text names i w) ≤ 37 + 40 * length w
  length-arrow_text i w h =
      omega (
        arith,
        length-append (name_text names i) (codes " -> " ++ word_text names w),
        length-name_text names i named,
        length-word_text w h,
      )

  length-arrows : (i : ℕ) (ws : List (List ℤ)) → AreShort ws
      → length (preceded (codes ", ") (arrow_texts names i ws)) ≤ 39 * length ws + 40 * letters_in ws
  length-arrows i [] short = omega arith
  length-arrows i (w ∷ ws) short =
      let one : length (arrow_text names (suc i) w) ≤ 37 + 40 * length w =
      length-arrow_text (suc i) w (All-head (λ v. length v ≤ 65536) w ws short) in
      let others = length-arrows (suc i) ws (All-tail (λ v. length v ≤ 65536) w ws short) in
      omega (
        arith,
        length-append (arrow_text names (suc i) w) (preceded (codes ", ") (arrow_texts names (suc i) ws)),
        one,
        others,
        sum_by-cons length w ws,
      )

  length-endo_line : (f : List (List ℤ)) → AreShort f → length (endo_line names f) ≤ 5 + (39 * length f + 40 * letters_in f)
  length-endo_line [] short = omega arith
  length-endo_line (w ∷ ws) short =
      let one : length (arrow_text names 1 w) ≤ 37 + 40 * length w = length-arrow_text 1 w (All-head (λ v. length v ≤ 65536) w ws short) in
      let others = length-arrows 1 ws (All-tail (λ v. length v ≤ 65536) w ws short) in
      omega (
        arith,
        length-append (arrow_text names 1 w) (preceded (codes ", ") (arrow_texts names 1 ws)),
        one,
        others,
        sum_by-cons length w ws,
      )

  length-endos : (n : ℕ) (fs : List (List (List ℤ))) → n ≤ 32 → AreEndos n fs → All AreShort fs
      → length (text_of_lines (endo_lines names fs)) ≤ 1254 * length fs + 40 * sum_by letters_in fs
  length-endos n [] most h short = omega arith
  length-endos n (f ∷ fs) most h short =
      let one : length (endo_line names f) ≤ 5 + (39 * length f + 40 * letters_in f) = length-endo_line f (All-head AreShort f fs short) in
      let long : length f ≡ n = h.0 in
      let others = length-endos n fs most h.2 (All-tail AreShort f fs short) in
      omega (arith, length-append (endo_line names f) (10 ∷ text_of_lines (endo_lines names fs)), one, others, sum_by-cons letters_in f fs)

length-names : (ns : List (List ℕ)) → AreShortNames ns → length (preceded (codes " ") ns) ≤ 33 * length ns
length-names [] h = omega arith
length-names (n ∷ ns) h =
    omega (
      arith,
      length-append n (preceded (codes " ") ns),
      All-head (λ m. length m ≤ 32) n ns h,
      length-names ns (All-tail (λ m. length m ≤ 32) n ns h),
    )

pub canonical_texts_are_short : CanonicalTextsAreShort
unfolding canonical_text
canonical_texts_are_short L are is limits =
    let first : List (List ℕ) = relator_lines (codes "fixed ") L.names L.fixed in
    let second : List (List ℕ) = relator_lines (codes "iterated ") L.names L.iterated in
    let third : List (List ℕ) = endo_lines L.names L.endos in
    let a = length-relators L.names limits.name_lengths (codes "fixed ") L.fixed (omega arith) limits.fixed_letters in
    let b = length-relators L.names limits.name_lengths (codes "iterated ") L.iterated (omega arith) limits.iterated_letters in
    let c = length-endos L.names limits.name_lengths (length L.names) L.endos limits.generators is.endo_words limits.endo_letters in
    let d = length-names L.names limits.name_lengths in
    let e = ap (λ (t : List ℕ). length t) (text_of_lines-append first (second ++ third)) in
    let f = ap (λ (t : List ℕ). length t) (text_of_lines-append second third) in
    omega (
      arith,
      a,
      b,
      c,
      d,
      e,
      f,
      length-append (generators_line L.names) (10 ∷ text_of_lines (first ++ (second ++ third))),
      length-append (text_of_lines first) (text_of_lines (second ++ third)),
      length-append (text_of_lines second) (text_of_lines third),
      limits.generators,
      limits.fixed,
      limits.iterated,
      limits.endos,
      limits.total,
    )
