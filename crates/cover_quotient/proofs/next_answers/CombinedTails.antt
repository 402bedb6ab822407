-- What becomes of a tail, as a sparse word behind that of the answer's generators: the word of its row, moved on.
use Rattle.std.proofs.Common.{◌≡◌, ℕ, zero, suc, ◌+◌, ◌-◌, ◌<◌, ◌≤◌, Option, None, Some, List, [], ◌∷◌, length, map, get_or, refl, ap, ap₂}
use Rattle.std.proofs.Common.{sym, ◌∙◌, subst, arith}
use Rattle.std.proofs.lemmas.List.Elements.{All-nil, All-cons}
use Rattle.std.specs.Prelude.{All}
use Rattle.pq_base.specs.Limits.{max_rank}
use Rattle.fp_echelon.specs.Span.{AreRows}
use Rattle.fp_echelon.proofs.SpanLaws.{combine-zeros}
use Rattle.pc_presentation.specs.declared.syllable.Syllable.{Syllable}
use Rattle.pc_presentation.specs.Syllable.{syllable, spread, syllables_of, AreSyllables}
use Rattle.pc_presentation.specs.Parts.{AreImages}
use Rattle.pc_presentation.proofs.presentations.SyllableLaws.{length-spread, AllBelow-spread}
use Rattle.pc_presentation.specs.Relation.{IsTail}
use Rattle.pc_presentation.specs.Pcp.{unit_row, row_of}
use Rattle.pc_presentation.proofs.presentations.SyllableParts.{syllables_of-zeros}
use Rattle.p_cover.specs.Covers.{CoverOf}
use Rattle.cover_quotient.specs.Combinations.{TailCombinations, AreCombinations, AreCombinationsOf}
use Rattle.cover_quotient.specs.Carried.{carried}
use Rattle.cover_quotient.specs.NextParts.{shifted}
use Rattle.cover_quotient.proofs.carried_rows.UnitRows.{combine-unit_row}

pub map_shifted-syllables_of : (by k : ℕ) (e : List ℕ) → map (shifted by) (syllables_of k e) ≡ syllables_of (by + k) e
map_shifted-syllables_of by k [] = refl
map_shifted-syllables_of by k (zero ∷ e) =
    let next : by + suc k ≡ suc (by + k) = omega arith in
    map_shifted-syllables_of by (suc k) e ∙ ap (λ (n : ℕ). syllables_of n e) next
map_shifted-syllables_of by k (suc x ∷ e) =
    let next : by + suc k ≡ suc (by + k) = omega arith in
    ap₂ (λ (g : ℕ) (w : List Syllable). syllable g (suc x) ∷ w) next
    (map_shifted-syllables_of by (suc k) e ∙ ap (λ (n : ℕ). syllables_of n e) next)

-- no generator moves too far
pub syllables_move : (p q k by : ℕ) (w : List Syllable) → by + q ≤ max_rank → AreSyllables p q k w
    → All (λ s. by + s.generator ≤ max_rank) w
syllables_move p q k by [] h a = All-nil (λ (s : Syllable). by + s.generator ≤ max_rank)
syllables_move p q k by (s ∷ w) h a =
    let last = a.1 in
    All-cons (λ (s : Syllable). by + s.generator ≤ max_rank) s w (omega arith) (syllables_move p q s.generator by w h a.4)

-- the word of a tail
pub tail_word : (p q n t by : ℕ) (rows : List (List ℕ)) → 0 < p → AreRows p q rows → length rows ≡ n → 1 ≤ t → t ≤ n
    → map (shifted by) (syllables_of 0 (get_or rows (t - 1) [])) ≡ syllables_of by (carried p q rows (unit_row n t))
tail_word p q n t by rows h are e low high =
    let same : by + 0 ≡ by = omega arith in
    map_shifted-syllables_of by 0 (get_or rows (t - 1) []) ∙ ap (λ (m : ℕ). syllables_of m (get_or rows (t - 1) [])) same
    ∙ ap (syllables_of by) (sym (combine-unit_row p q n t rows h are e low high))

-- what becomes of a tail, where the new generators come after the first n
abbrev pub tail_part : TailCombinations → ℕ → Option ℕ → List Syllable
tail_part K n tail = syllables_of n (carried K.prime (length K.kept) K.rows (row_of (length K.rows) tail))

tail-range : (width t : ℕ) (tail : Option ℕ) → IsTail width tail → tail ≡ Some t → (1 ≤ t) × (t ≤ width)
tail-range width t tail h e = subst (IsTail width) e h

module _ (K : TailCombinations) (are : AreCombinations K) (n : ℕ) (tail : Option ℕ) where
  pub tail_part-none : tail ≡ None → tail_part K n tail ≡ []
  tail_part-none e =
      let big = are.prime in
      ap (tail_part K n) e
      ∙ ap (syllables_of n) (combine-zeros K.prime (length K.kept) (length K.rows) K.rows (omega arith) are.rows)
      ∙ syllables_of-zeros n (length K.kept)

  pub tail_part-some : (t : ℕ) → IsTail (length K.rows) tail → tail ≡ Some t
      → map (shifted n) (syllables_of 0 (get_or K.rows (t - 1) [])) ≡ tail_part K n tail
  tail_part-some t range e =
      let big = are.prime in
      let r = tail-range (length K.rows) t tail range e in
      tail_word K.prime (length K.kept) (length K.rows) t n K.rows (omega arith) are.rows refl r.0 r.1 ∙ sym (ap (tail_part K n) e)

-- over the tails of a cover
module _ (C : CoverOf) (K : TailCombinations) (of : AreCombinationsOf C K) where
  pub cover_rows : AreCombinations K → AreRows C.answer.presentation.prime (length K.kept) K.rows
  cover_rows are = subst (λ (p : ℕ). AreRows p (length K.kept) K.rows) of.prime are.rows

  pub cover_part : (n : ℕ) (tail : Option ℕ)
      → tail_part K n tail ≡ syllables_of n (carried C.answer.presentation.prime (length K.kept) K.rows (row_of (length C.sources) tail))
  cover_part n tail =
      ap (λ (p : ℕ). syllables_of n (carried p (length K.kept) K.rows (row_of (length K.rows) tail))) of.prime
      ∙ ap (λ (w : ℕ). syllables_of n (carried C.answer.presentation.prime (length K.kept) K.rows (row_of w tail))) of.count

-- normal words stand for rows
spread-rows : (p q : ℕ) (words : List (List Syllable)) → 1 ≤ p → AreImages p q words → AreRows p q (map (spread q 0) words)
spread-rows p q [] h a = tt
spread-rows p q (w ∷ words) h a = (
  record { count = length-spread q 0 w; below = AllBelow-spread p q q 0 w h (a 0 [] (omega arith)) },
  spread-rows p q words h (λ k d l. a (suc k) d (omega arith)),
)

pub spread_words-are : (p : ℕ) (kept : List ℕ) (words : List (List Syllable)) → 2 ≤ p → AreImages p (length kept) words
    → AreCombinations (record { prime = p; kept = kept; rows = map (spread (length kept) 0) words })
spread_words-are p kept words h a = record { prime = h; rows = spread-rows p (length kept) words (omega arith) a }
