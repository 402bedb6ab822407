-- A tail that a step keeps may be kept, where the answer that the run ends with is an answer: it defines a generator there by its
-- source, so the source's right side is that generator alone, and was empty before.
use Rattle.std.proofs.Common.{◌≡◌, ℕ, zero, suc, ◌+◌, ◌<◌, ◌≤◌, ℤ, pos, List, [], ◌∷◌, ◌++◌, length, get_or, replicate, refl, ap, sym, ◌∙◌}
use Rattle.std.proofs.Common.{subst, arith, length-append, append_assoc}
use Rattle.std.proofs.lemmas.List.{get_or_append_left, get_or-append-add, length-replicate}
use Rattle.std.proofs.lemmas.List.Elements.{All-from_get_or}
use Rattle.pq_base.specs.Limits.{max_class}
use Rattle.pq_base.specs.SignedWord.{IsLetter, HasLetters}
use Rattle.pq_base.specs.Presentation.{letter, word_from, power_side, commutator_side, power_word, commutator_word}
use Rattle.pq_base.specs.Answer.{Answer, Definition as Source, IsAnswer, HasDefinition, AreWeights, class_of, weight_at, definition_at}
use Rattle.pq_base.specs.Answer.Definition.{image, commutator, power}
use Rattle.pq_base.specs.EntryWords.{IsSourceOf}
use Rattle.pq_base.proofs.LastWeights.{no_weights, weight-new}
use Rattle.pq_base.proofs.words.WordLaws.{word_from-append}
use Rattle.pq_base.proofs.words.LetterLaws.{HasLetters-power_word, HasLetters-commutator_word}
use Rattle.fp_echelon.specs.Reduced.{BasisRow}
use Rattle.p_cover.specs.Covers.{CoverOf}
use Rattle.cover_quotient.specs.AnswerLaws.{IsBasisOver}
use Rattle.cover_quotient.specs.Defining.{MayBeKept, KeptMayBeKept}
use Rattle.cover_quotient.specs.Kept.{kept_columns}
use Rattle.cover_quotient.specs.NextAnswer.{kept_sources, eliminated}
use Rattle.cover_quotient.proofs.kept_tails.CoverUnits.{HasUnitRows, cover-units}
use Rattle.cover_quotient.proofs.kept_tails.EliminatedAnswers.{kept_source-is, length-kept_sources}
use Rattle.certified_runs.proofs.Extensions.{Extends}

-- weights are at most the greatest class
weight-limit : (ws : List ℕ) (least k : ℕ) → AreWeights least ws → k < length ws → get_or ws k 0 ≤ max_class
weight-limit [] least k are l = absurd (omega arith)
weight-limit (v ∷ ws) least zero are l = are.1
weight-limit (v ∷ ws) least (suc k) are l = weight-limit ws v k are.2 (omega arith)

-- in front of a letter of a later generator there is nothing
front-empty : (n m : ℕ) (u x : List ℤ) → HasLetters n u → n ≤ m → u ++ x ≡ letter m → u ≡ []
front-empty n m [] x l few e = refl
front-empty n m (k ∷ u) x l few e =
    let same : k ≡ pos (suc m) = ap (λ (w : List ℤ). get_or w 0 k) e in
    let h : m < n = subst (IsLetter n) same l.0 in
    absurd (omega arith)

module _ (C : CoverOf) (bs : List BasisRow) (over : IsBasisOver C bs) (big : 1 < C.answer.presentation.prime) (B : Answer) (is : IsAnswer B)
    (extends : Extends (eliminated C bs).presentation.rank (eliminated C bs) B)
    (first : Extends C.answer.presentation.rank C.answer (eliminated C bs)) where
  abbrev N : Answer
  N = C.answer

  abbrev n : ℕ
  n = C.answer.presentation.rank

  abbrev w : ℕ
  w = length (kept_columns (length C.sources) bs)

  units : HasUnitRows C
  units = cover-units C over.cover big

  count : length (kept_sources C bs) ≡ length (kept_columns (length C.sources) bs)
  count = length-kept_sources C units big bs over.reduced

  defined : (t : ℕ) → t < w → definition_at B (C.answer.presentation.rank + t) ≡ get_or (kept_sources C bs) t (image 0)
  defined t l =
      let more = extends.definitions in
      let long = length-append N.definitions (kept_sources C bs) in
      let c = over.cover.answer.definition_count in
      let k = count in
      ap (λ (ds : List Source). get_or ds (n + t) (image 0)) more.1
      ∙ get_or_append_left (N.definitions ++ kept_sources C bs) more.0 (image 0) (n + t) (omega arith)
      ∙ ap (λ (m : ℕ). get_or (N.definitions ++ kept_sources C bs) (m + t) (image 0)) (sym over.cover.answer.definition_count)
      ∙ get_or-append-add N.definitions (kept_sources C bs) t (image 0)

  weight : (t : ℕ) → t < w → weight_at B (C.answer.presentation.rank + t) ≡ suc (class_of C.answer)
  weight t l =
      let more = extends.weights in
      let long = length-append N.weights (replicate w (suc (class_of N))) in
      let c = over.cover.answer.weight_count in
      let k = length-replicate w (suc (class_of N)) in
      ap (λ (ds : List ℕ). get_or ds (n + t) 0) more.1
      ∙ get_or_append_left (N.weights ++ replicate w (suc (class_of N))) more.0 0 (n + t) (omega arith)
      ∙ ap (λ (m : ℕ). get_or (N.weights ++ replicate w (suc (class_of N))) (m + t) 0) (sym over.cover.answer.weight_count)
      ∙ weight-new N.weights (suc (class_of N)) w t l

  -- right sides of the answer before
  power-empty : (j m : ℕ) → j < n → n ≤ m → power_word B.presentation j ≡ letter m → power_word N.presentation j ≡ []
  power-empty j m l few e =
      let x = first.powers j l in
      let y = extends.powers j (omega arith) in
      let side : power_side B.presentation j ≡ (power_side N.presentation j ++ x.0) ++ y.0 = y.1 ∙ ap (λ (z : List ℕ). z ++ y.0) x.1 in
      let words : power_word B.presentation j
      ≡ power_word N.presentation j ++ word_from (suc j + length (power_side N.presentation j)) (x.0 ++ y.0) =
      ap (word_from (suc j)) (side ∙ append_assoc (power_side N.presentation j) x.0 y.0)
      ∙ word_from-append (suc j) (power_side N.presentation j) (x.0 ++ y.0) in
      front-empty n m (power_word N.presentation j) (word_from (suc j + length (power_side N.presentation j)) (x.0 ++ y.0))
      (HasLetters-power_word N.presentation over.cover.answer.presentation j l) few (sym words ∙ e)

  commutator-empty : (j i m : ℕ) → j < n → i < j → n ≤ m → commutator_word B.presentation j i ≡ letter m
      → commutator_word N.presentation j i ≡ []
  commutator-empty j i m l k few e =
      let x = first.commutators j i l k in
      let y = extends.commutators j i (omega arith) k in
      let side : commutator_side B.presentation j i ≡ (commutator_side N.presentation j i ++ x.0) ++ y.0 =
      y.1 ∙ ap (λ (z : List ℕ). z ++ y.0) x.1 in
      let words : commutator_word B.presentation j i
      ≡ commutator_word N.presentation j i ++ word_from (suc j + length (commutator_side N.presentation j i)) (x.0 ++ y.0) =
      ap (word_from (suc j)) (side ∙ append_assoc (commutator_side N.presentation j i) x.0 y.0)
      ∙ word_from-append (suc j) (commutator_side N.presentation j i) (x.0 ++ y.0) in
      front-empty n m (commutator_word N.presentation j i) (word_from (suc j + length (commutator_side N.presentation j i)) (x.0 ++ y.0))
      (HasLetters-commutator_word N.presentation over.cover.answer.presentation j i l k) few (sym words ∙ e)

  no-rank : class_of C.answer ≡ 0 → C.answer.presentation.rank ≡ 0
  no-rank e = sym over.cover.answer.weight_count ∙ no_weights N.weights over.cover.answer.weights e

  may : (t c : ℕ) (d : Source) → t < w → c ≡ class_of C.answer → IsSourceOf C.answer d
      → HasDefinition B (C.answer.presentation.rank + t) d → MayBeKept C.answer c d
  may t c (image zero) l e s h = absurd s
  may t zero (image (suc i)) l e s h = tt
  may t (suc c) (image (suc i)) l e s h = let one = h.0 in let heavy = weight t l in absurd (omega arith)
  may t c (commutator zero i) l e s h = absurd s
  may t c (commutator (suc j) zero) l e s h = absurd s
  may t zero (commutator (suc j) (suc i)) l e s h = let none = no-rank (sym e) in let below = s.0 in absurd (omega arith)
  may t (suc c) (commutator (suc j) (suc i)) l e s h = commutator-empty j i (n + t) s.0 s.1 (omega arith) h.3
  may t c (power zero) l e s h = absurd s
  may t zero (power (suc j)) l e s h = let none = no-rank (sym e) in absurd (omega arith)
  may t (suc c) (power (suc j)) l e s h = power-empty j (n + t) s (omega arith) h.2

  pub kept-may_be_kept : KeptMayBeKept C bs
  kept-may_be_kept =
      All-from_get_or (MayBeKept N (class_of N)) (kept_sources C bs) (image 0)
      (λ t l.
      let k = count in
      let within : t < w = omega arith in
      let ranks = extends.rank in
      let d : Source = get_or (kept_sources C bs) t (image 0) in
      may t (class_of N) d within refl (kept_source-is C units big bs over.reduced t within)
      (subst (HasDefinition B (n + t)) (defined t within) (is.definitions (n + t) (omega arith))))

  -- the class is within the limit
  pub kept-few : 1 ≤ length (kept_columns (length C.sources) bs) → class_of C.answer < max_class
  kept-few some =
      let ranks = extends.rank in
      let heavy = weight 0 some in
      let all = weight-limit B.weights 1 (n + 0) is.weights (let c = is.weight_count in omega arith) in
      omega arith
