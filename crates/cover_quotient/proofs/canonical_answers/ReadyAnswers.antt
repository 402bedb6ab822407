-- A consistent answer that obeys weights is ready for the next class: the generators of its last weight have relations with
-- empty words, as a letter there would have a greater weight, and the generators before have the class before.
use Rattle.std.proofs.Common.{◌≡◌, ◌≢◌, ℕ, suc, ◌+◌, ◌-◌, ◌<◌, ◌≤◌, List, [], get_or, length, ⊎_elim, arith}
use Rattle.std.proofs.lemmas.Bool.{cases_eq}
use Rattle.pq_base.specs.Presentation.{Presentation, power_side, commutator_side, power_word, commutator_word}
use Rattle.pq_base.specs.Answer.{Answer, IsAnswer, class_of, weight_at}
use Rattle.pq_base.specs.Canonical.{ObeysWeights}
use Rattle.pq_base.proofs.WeightLaws.{weights-least}
use Rattle.cover_quotient.specs.Levels.{IsReady}
use Rattle.cover_quotient.specs.CanonicalAnswerLaws.{ConsistentAnswersAreReady}
use Rattle.cover_quotient.proofs.canonical_answers.ClassesByWeight.{word_from-zero, weights-class}
use Rattle.pq_base.proofs.LastWeights.{weights-within_class}

module _ (A : Answer) (is : IsAnswer A) (obeys : ObeysWeights A) where
  abbrev P : Presentation
  P = A.presentation

  last-power : (l : ℕ) → l < A.presentation.rank → weight_at A l ≡ class_of A → power_word P l ≡ []
  last-power l b w =
      let long = (is.presentation.power_sides l b).count in
      word_from-zero (suc l) (power_side P l)
      (λ m c.
      ⊎_elim (λ (zero_there : get_or (power_side A.presentation l) m 0 ≡ 0). zero_there)
      (λ (other : get_or (power_side A.presentation l) m 0 ≢ 0).
      let more : suc (weight_at A l) ≤ weight_at A (suc l + m) = obeys.powers l m b other in
      let most = weights-within_class A is (suc l + m) (omega arith) in
      absurd (omega arith))
      (cases_eq (get_or (power_side A.presentation l) m 0) 0))

  last-commutator : (l i : ℕ) → l < A.presentation.rank → i < l → weight_at A l ≡ class_of A → commutator_word P l i ≡ []
  last-commutator l i b before w =
      let count : length A.weights ≡ A.presentation.rank = is.weight_count in
      let long = (is.presentation.commutator_sides l i b before).count in
      word_from-zero (suc l) (commutator_side P l i)
      (λ m c.
      ⊎_elim (λ (zero_there : get_or (commutator_side A.presentation l i) m 0 ≡ 0). zero_there)
      (λ (other : get_or (commutator_side A.presentation l i) m 0 ≢ 0).
      let more : weight_at A l + weight_at A i ≤ weight_at A (suc l + m) = obeys.commutators l i m b before other in
      let most = weights-within_class A is (suc l + m) (omega arith) in
      let least = weights-least 1 A.weights is.weights i (omega arith) in
      absurd (omega arith))
      (cases_eq (get_or (commutator_side A.presentation l i) m 0) 0))

pub consistent_answers_are_ready : ConsistentAnswersAreReady
consistent_answers_are_ready A is obeys consistent = record {
  consistent = consistent;
  weights = λ k l. weights-within_class A is k l;
  powers = last-power A is obeys;
  commutators = last-commutator A is obeys;
  below = weights-class A is obeys (class_of A - 1);
}
