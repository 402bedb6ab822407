-- The combinations that a basis makes of the tails, one tail after the other, are those of the tails of a cover.
use Rattle.std.proofs.Common.{◌≡◌, ℕ, ◌+◌, ◌-◌, ◌<◌, ◌≤◌, List, [], ◌∷◌, ◌++◌, get_or, length, take, ap, ap₂, sym, ◌∙◌, arith}
use Rattle.std.proofs.lemmas.List.{take_all}
use Rattle.pq_base.proofs.ListSteps.{take-more}
use Rattle.pq_base.specs.Limits.{max_rank}
use Rattle.fp_echelon.specs.Basis.{Echelon, IsBasis}
use Rattle.pc_presentation.specs.Syllable.{syllables_of, spread, AreSyllables}
use Rattle.pc_presentation.proofs.presentations.SyllableLaws.{spread-syllables_of, AreSyllables-syllables_of}
use Rattle.p_cover.specs.Covers.{CoverOf}
use Rattle.cover_quotient.specs.Combinations.{AreCombinationsOf}
use Rattle.cover_quotient.specs.Kept.{kept_columns, kept_rows, kept_combinations}
use Rattle.cover_quotient.proofs.kept_tails.KeptRows.{length-kept_rows}
use Rattle.cover_quotient.proofs.kept_tails.KeptThemselves.{kept_row-fits}

module _ (B : Echelon) (is : IsBasis B) where
  abbrev p : ℕ
  p = B.prime

  abbrev K : List ℕ
  K = kept_columns B.width B.rows

  two : 1 < B.prime
  two = let h = is.prime in omega arith

  -- the row of a tail, counted from 1, as a word
  pub kept_row-word : (t : ℕ) → 1 ≤ t → t ≤ B.width
      → AreSyllables B.prime (length (kept_columns B.width B.rows)) 0
      (syllables_of 0 (get_or (kept_rows B.prime B.width B.rows) (t - 1) []))
  kept_row-word t first last =
      let row = kept_row-fits p B.width two B.rows is.reduced t first last in
      let count = row.count in
      AreSyllables-syllables_of p (length K) 0 (get_or (kept_rows B.prime B.width B.rows) (t - 1) []) (omega arith) row.below

  pub kept_row-spread : (t : ℕ) → 1 ≤ t → t ≤ B.width
      → spread (length (kept_columns B.width B.rows)) 0 (syllables_of 0 (get_or (kept_rows B.prime B.width B.rows) (t - 1) []))
      ≡ get_or (kept_rows B.prime B.width B.rows) (t - 1) []
  kept_row-spread t first last =
      let x : List ℕ = get_or (kept_rows B.prime B.width B.rows) (t - 1) [] in
      ap (λ (n : ℕ). spread n 0 (syllables_of 0 x)) (sym (kept_row-fits p B.width two B.rows is.reduced t first last).count)
      ∙ spread-syllables_of 0 x

  -- one tail more
  pub kept_rows-more : (t : ℕ) → t + 1 ≤ B.width
      → take t (kept_rows B.prime B.width B.rows) ++ get_or (kept_rows B.prime B.width B.rows) (t + 1 - 1) [] ∷ []
      ≡ take (t + 1) (kept_rows B.prime B.width B.rows)
  kept_rows-more t last =
      let rows : List (List ℕ) = kept_rows B.prime B.width B.rows in
      let count = length-kept_rows B.prime B.width B.rows in
      let same : t + 1 - 1 ≡ t = omega arith in
      ap (λ (i : ℕ). take t rows ++ get_or rows i [] ∷ []) same ∙ sym (take-more rows t [] (omega arith))

  pub kept_rows-all : (t : ℕ) → B.width ≤ t → take t (kept_rows B.prime B.width B.rows) ≡ kept_rows B.prime B.width B.rows
  kept_rows-all t all =
      let count = length-kept_rows B.prime B.width B.rows in
      take_all t (kept_rows B.prime B.width B.rows) (omega arith)

  -- over the tails of a cover
  module _ (C : CoverOf) (prime : B.prime ≡ C.answer.presentation.prime) (width : B.width ≡ length C.sources) where
    pub kept_combinations-of : C.answer.presentation.rank + length (kept_columns B.width B.rows) ≤ max_rank
        → AreCombinationsOf C (kept_combinations B.prime B.width B.rows)
    kept_combinations-of limit = record { prime = prime; count = length-kept_rows B.prime B.width B.rows ∙ width; limit = limit }

    pub kept_combinations-same : kept_combinations B.prime B.width B.rows
        ≡ kept_combinations C.answer.presentation.prime (length C.sources) B.rows
    kept_combinations-same = ap₂ (λ (q w : ℕ). kept_combinations q w B.rows) prime width
