-- A canonical answer that is cut to a class up to its own has just that class: the first generator of greater weight is defined by one of
-- the weight before.
use Rattle.std.proofs.Common.{◌≡◌, ℕ, zero, suc, ◌-◌, ◌<◌, ◌≤◌, true, eqb, length, inl, inr, arith}
use Rattle.std.proofs.lemmas.Bool.{cases_lt, eqb-true, and_parts, false≢true}
use Rattle.pq_base.specs.Answer.{Answer, Definition, IsAnswer, HasDefinition, class_of, weight_at, definition_at}
use Rattle.pq_base.specs.Answer.Definition.{image, commutator, power}
use Rattle.pq_base.specs.Canonical.{rank_up_to, is_qualifying, up_to_class, IsCanonical}
use Rattle.pq_base.proofs.LastWeights.{weights-within_class}
use Rattle.pq_base.proofs.WeightLaws.{weights-past_count}
use Rattle.cover_quotient.proofs.canonical_answers.ClassesByWeight.{weights-counted}
use Rattle.cover_quotient.proofs.canonical_answers.HeavyTails.{allowed-at}
use Rattle.unique_answers.proofs.unique.CutParts.{cut-weight}
use Rattle.unique_answers.proofs.unique.CutAnswers.{cut-answer}
use Rattle.unique_answers.proofs.unique.CutClasses.{last-weight, no_last, cut-class}

-- a generator of weight v before place l
record HasBefore (A : Answer) (l v : ℕ) : Type 0 where
  pub place : ℕ
  pub before : place < l
  pub weight : weight_at A place ≡ v

-- a definition that is allowed is by a generator of the weight before
allowed-before : (A : Answer) (l v : ℕ) (d : Definition) → HasDefinition A l d → is_qualifying A v d ≡ true → HasBefore A l v
allowed-before A l v (image i) h q = absurd (false≢true q)
allowed-before A l v (commutator zero i) h q = absurd h
allowed-before A l v (commutator (suc j) zero) h q = absurd h
allowed-before A l v (commutator (suc j) (suc i)) h q = record {
  place = j;
  before = h.2;
  weight = eqb-true (weight_at A j) v (and_parts (eqb (weight_at A j) v) (eqb (weight_at A i) 1) q).0;
}
allowed-before A l v (power zero) h q = absurd h
allowed-before A l v (power (suc j)) h q = record { place = j; before = h.1; weight = eqb-true (weight_at A j) v q }

module _ (A : Answer) (is : IsAnswer A) (canonical : IsCanonical A) where
  weight-before : (l k : ℕ) → l < A.presentation.rank → weight_at A l ≡ suc (suc k) → HasBefore A l (suc k)
  weight-before l k b w = allowed-before A l (suc k) (definition_at A l) (is.definitions l b) (allowed-at A is canonical l (suc k) b w)

  module _ (k : ℕ) (small : k < class_of A) where
    -- there is a generator of greater weight
    some_heavy : rank_up_to A k < A.presentation.rank
    some_heavy = elim (cases_lt (rank_up_to A k) A.presentation.rank) [
      | inl less ↦ less
      | inr none ↦
          let count : length A.weights ≡ A.presentation.rank = is.weight_count in
          let some : 0 < length A.weights = elim (cases_lt 0 (length A.weights)) [
            | inl more ↦ more
            | inr rest ↦ let nothing = no_last A.weights (omega arith) in absurd (omega arith)
          ] in
          let last : weight_at A (length A.weights - 1) ≡ class_of A = last-weight A.weights some in
          let light = weights-counted 1 k A.weights is.weights (length A.weights - 1) (omega arith) in
          absurd (omega arith)
    ]

    cut-reaches : (k : ℕ) → rank_up_to A k < A.presentation.rank → k ≤ class_of (up_to_class A k)
    cut-reaches zero more = omega arith
    cut-reaches (suc j) more =
        let l : ℕ = rank_up_to A (suc j) in
        let count : length A.weights ≡ A.presentation.rank = is.weight_count in
        let heavy : suc j < weight_at A (rank_up_to A (suc j)) =
        weights-past_count 1 (suc j) A.weights is.weights l (omega arith) (omega arith) in
        let v : ℕ = weight_at A (rank_up_to A (suc j)) - 2 in
        let has = weight-before l v more (let e : weight_at A (rank_up_to A (suc j)) ≡ suc (suc v) = omega arith in e) in
        let inside : has.place < rank_up_to A (suc j) = has.before in
        let same : weight_at A has.place ≡ suc v = has.weight in
        let kept = cut-weight A is (suc j) has.place inside in
        let most = weights-within_class (up_to_class A (suc j)) (cut-answer A is (suc j)) has.place inside in
        omega arith

    pub cut-exact : class_of (up_to_class A k) ≡ k
    cut-exact = let low = cut-reaches k some_heavy in let high = cut-class A is k in omega arith
