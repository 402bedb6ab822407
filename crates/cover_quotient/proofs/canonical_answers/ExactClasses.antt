-- A canonical and consistent answer has the class that it shows and no smaller one: each of its generators lies in the level
-- before its weight, and the last one is not trivial.
use Rattle.std.proofs.Common.{◌≡◌, ℕ, zero, suc, ◌+◌, ◌-◌, ◌<◌, ◌≤◌, List, [], ◌∷◌, get_or, length, refl, ap, sym, ◌∙◌, subst, arith}
use Rattle.pq_base.specs.Presentation.{letter}
use Rattle.pq_base.specs.Joined.{Joined, IsConsistent}
use Rattle.pq_base.specs.Series.{InSeries, HasClass}
use Rattle.pq_base.specs.Answer.{Answer, IsAnswer, last_or_zero, class_of, weight_at}
use Rattle.pq_base.specs.Canonical.{unit, ObeysWeights, IsCanonical}
use Rattle.pq_base.specs.Elementary.{zeros}
use Rattle.pq_base.proofs.words.WordLaws.{word_from-zeros}
use Rattle.pq_base.proofs.UnitLaws.{length-unit, get_or-zeros, get_or-unit, unit-below, word_from-unit}
use Rattle.pq_base.proofs.ElementarySides.{zeros-below}
use Rattle.pq_base.proofs.words.LetterLaws.{HasLetters-letter}
use Rattle.pq_base.proofs.words.JoinedLaws.{joined-from_equal, joined-trans}
use Rattle.pq_base.proofs.SeriesLaws.{series-fall}
use Rattle.pq_base.proofs.Restrictions.{restrictions_are_whole}
use Rattle.pc_presentation.proofs.rows.Projections.{sub-projection, series-projected}
use Rattle.p_cover.specs.RowedAnswer.{RowedAnswer, IsRowedAnswer, rowed}
use Rattle.p_cover.specs.Covers.{all_sources, cover_on}
use Rattle.p_cover.proofs.PartLaws.{part_of_itself}
use Rattle.p_cover.proofs.CoverRows.{covers_are_rowed_answers}
use Rattle.cover_quotient.specs.CanonicalAnswerLaws.{CanonicalAnswersHaveNoSmallerClass}
use Rattle.cover_quotient.proofs.canonical_answers.ClassesByWeight.{weights-class}
use Rattle.cover_quotient.proofs.canonical_answers.HeavyTails.{letter-level}

-- the class that it shows
pub own-class : (A : Answer) → IsAnswer A → ObeysWeights A → HasClass A.presentation (class_of A)
own-class A is obeys =
    subst (λ (B : Answer). HasClass B.presentation (class_of A)) (restrictions_are_whole A is (class_of A) (omega arith))
    (weights-class A is obeys (class_of A))

-- the last weight
last-weight : (ws : List ℕ) → 0 < last_or_zero ws → get_or ws (length ws - 1) 0 ≡ last_or_zero ws
last-weight [] h = refl
last-weight (w ∷ []) h = refl
last-weight (w ∷ v ∷ ws) h =
    let place : length (w ∷ v ∷ ws) - 1 ≡ suc (length (v ∷ ws) - 1) = omega arith in
    ap (λ (i : ℕ). get_or (w ∷ v ∷ ws) i 0) place ∙ last-weight (v ∷ ws) h

some-weight : (ws : List ℕ) → 0 < last_or_zero ws → 0 < length ws
some-weight [] h = absurd (omega arith)
some-weight (w ∷ ws) h = omega arith

zeros-length : (n : ℕ) → length (zeros n) ≡ n
zeros-length zero = refl
zeros-length (suc n) = ap suc (zeros-length n)

no_one : (a : ℕ) → a ≡ 1 → a ≡ 0 → ⊥
no_one a e f = absurd (omega arith)

module _ (A : Answer) (is : IsAnswer A) where
  -- a generator of weight k + 1 lies in level k, as it does with its tails
  generator-lies : IsCanonical A → (l k : ℕ) → l < A.presentation.rank → weight_at A l ≡ suc k → InSeries A.presentation k (letter l)
  generator-lies canonical l k b w =
      let X : RowedAnswer = cover_on A (all_sources A) in
      let rows : IsRowedAnswer (cover_on A (all_sources A)) =
      (covers_are_rowed_answers A (all_sources A) is (part_of_itself (all_sources A))).0 in
      subst (InSeries A.presentation k) (sub-projection A.presentation.rank X.width (letter l) (HasLetters-letter A.presentation.rank l b))
      (series-projected (rowed X) rows.presentation k (letter l) (letter-level X rows canonical l k b w))

  -- no generator is trivial
  letter-not_trivial : IsConsistent A.presentation → (k : ℕ) → k < A.presentation.rank → Joined A.presentation (letter k) [] → ⊥
  letter-not_trivial consistent k l e =
      let n : ℕ = A.presentation.rank in
      let q : ℕ = A.presentation.prime in
      let big : 2 ≤ A.presentation.prime = is.presentation.prime in
      let place : 0 + k ≡ k = omega arith in
      let same : unit n k ≡ zeros n =
      consistent.unique (unit n k) (zeros n)
      (record { count = length-unit n k; below = unit-below q n k (omega arith) })
      (record { count = zeros-length n; below = zeros-below q n (omega arith) })
      (joined-trans (joined-from_equal A.presentation (word_from-unit 0 n k l ∙ ap letter place))
      (joined-trans e (joined-from_equal A.presentation (sym (word_from-zeros 0 n))))) in
      no_one (get_or (unit n k) k 0) (get_or-unit n k l) (ap (λ (x : List ℕ). get_or x k 0) same ∙ get_or-zeros n k)

pub canonical_answers_have_no_smaller_class : CanonicalAnswersHaveNoSmallerClass
canonical_answers_have_no_smaller_class A is canonical consistent k l class =
    let count : length A.weights ≡ A.presentation.rank = is.weight_count in
    let some = some-weight A.weights (omega arith) in
    let last : ℕ = length A.weights - 1 in
    let below : class_of A - 1 ≡ k + (class_of A - 1 - k) = omega arith in
    let one_more : class_of A ≡ suc (class_of A - 1) = omega arith in
    let weight : weight_at A last ≡ suc (class_of A - 1) = last-weight A.weights (omega arith) ∙ one_more in
    letter-not_trivial A is consistent last (omega arith)
    (class (letter last)
    (series-fall A.presentation k (class_of A - 1 - k) (letter last)
    (subst (λ (n : ℕ). InSeries A.presentation n (letter last)) below
    (generator-lies A is canonical last (class_of A - 1) (omega arith) weight))))
