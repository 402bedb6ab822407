-- Where a canonical answer is cut to class k + 1, its generators of weight k + 1 come last, and their relations have empty words.
use Rattle.std.proofs.Common.{◌≡◌, ◌≢◌, ℕ, suc, ◌+◌, ◌-◌, ◌<◌, ◌≤◌, get_or, length, inl, inr, ⊎_elim, arith}
use Rattle.std.proofs.lemmas.Bool.{cases_lt, cases_eq}
use Rattle.std.proofs.lemmas.List.{get_or_past}
use Rattle.pq_base.specs.Presentation.{power_side, commutator_side}
use Rattle.pq_base.specs.Answer.{Answer, IsAnswer, weight_at}
use Rattle.pq_base.specs.Canonical.{rank_up_to, up_to_class, ObeysWeights, IsCanonical}
use Rattle.pq_base.proofs.LastWeights.{weights-within_class}
use Rattle.pq_base.proofs.WeightLaws.{weights-least, weights-past_count}
use Rattle.cover_quotient.proofs.canonical_answers.ClassesByWeight.{rank-within, weights-counted}
use Rattle.unique_answers.proofs.RestrictedAnswers.{restrictions_are_canonical}
use Rattle.unique_answers.proofs.unique.CutParts.{cut-weight_count, cut-weight}
use Rattle.unique_answers.proofs.unique.CutAnswers.{cut-answer}
use Rattle.unique_answers.proofs.unique.CutClasses.{cut-class}

module _ (A : Answer) (is : IsAnswer A) (canonical : IsCanonical A) (k : ℕ) where
  abbrev N : Answer
  N = up_to_class A (suc k)

  abbrev n : ℕ
  n = rank_up_to A (suc k)

  obeys : ObeysWeights N
  obeys = (restrictions_are_canonical A is canonical (suc k)).weights

  pub new-weight : (l : ℕ) → rank_up_to A k ≤ l → l < rank_up_to A (suc k) → weight_at A l ≡ suc k
  new-weight l a b =
      let fits = rank-within A is (suc k) in
      let count : length A.weights ≡ A.presentation.rank = is.weight_count in
      let heavy = weights-past_count 1 k A.weights is.weights l a (omega arith) in
      let light = weights-counted 1 (suc k) A.weights is.weights l b in
      omega arith

  pub new-power : (l i : ℕ) → rank_up_to A k ≤ l → l < rank_up_to A (suc k)
      → get_or (power_side (up_to_class A (suc k)).presentation l) i 0 ≡ 0
  new-power l i a b = elim (cases_lt i (n - suc l)) [
    | inr past ↦
        let long = ((cut-answer A is (suc k)).presentation.power_sides l b).count in
        get_or_past (power_side N.presentation l) i 0 (omega arith)
    | inl inside ↦
        ⊎_elim (λ (zero_there : get_or (power_side (up_to_class A (suc k)).presentation l) i 0 ≡ 0). zero_there)
        (λ (other : get_or (power_side (up_to_class A (suc k)).presentation l) i 0 ≢ 0).
        let more : suc (weight_at N l) ≤ weight_at N (suc l + i) = obeys.powers l i b other in
        let weight = new-weight l a b in
        let kept = cut-weight A is (suc k) l b in
        let most = weights-within_class N (cut-answer A is (suc k)) (suc l + i) (omega arith) in
        let class = cut-class A is (suc k) in
        absurd (omega arith))
        (cases_eq (get_or (power_side (up_to_class A (suc k)).presentation l) i 0) 0)
  ]

  pub new-commutator : (l j i : ℕ) → rank_up_to A k ≤ l → l < rank_up_to A (suc k) → j < l
      → get_or (commutator_side (up_to_class A (suc k)).presentation l j) i 0 ≡ 0
  new-commutator l j i a b before = elim (cases_lt i (n - suc l)) [
    | inr past ↦
        let long = ((cut-answer A is (suc k)).presentation.commutator_sides l j b before).count in
        get_or_past (commutator_side N.presentation l j) i 0 (omega arith)
    | inl inside ↦
        ⊎_elim (λ (zero_there : get_or (commutator_side (up_to_class A (suc k)).presentation l j) i 0 ≡ 0). zero_there)
        (λ (other : get_or (commutator_side (up_to_class A (suc k)).presentation l j) i 0 ≢ 0).
        let more : weight_at N l + weight_at N j ≤ weight_at N (suc l + i) = obeys.commutators l j i b before other in
        let weight = new-weight l a b in
        let kept = cut-weight A is (suc k) l b in
        let most = weights-within_class N (cut-answer A is (suc k)) (suc l + i) (omega arith) in
        let class = cut-class A is (suc k) in
        let many = cut-weight_count A is (suc k) in
        let least = weights-least 1 N.weights (cut-answer A is (suc k)).weights j (omega arith) in
        absurd (omega arith))
        (cases_eq (get_or (commutator_side (up_to_class A (suc k)).presentation l j) i 0) 0)
  ]
