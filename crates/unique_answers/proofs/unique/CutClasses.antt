-- The class of an answer that is cut to a class k is at most k and at most the answer's. Cut once more to a smaller class it is the
-- answer cut to that class.
use Rattle.std.proofs.Common.{◌≡◌, ℕ, suc, ◌-◌, ◌<◌, ◌≤◌, List, [], ◌∷◌, get_or, length, refl, ap, ◌∙◌, inl, inr, arith}
use Rattle.std.proofs.lemmas.Bool.{cases_lt}
use Rattle.pq_base.specs.Answer.{Answer, IsAnswer, last_or_zero, class_of, weight_at}
use Rattle.pq_base.specs.Canonical.{rank_up_to, up_to_class}
use Rattle.pq_base.proofs.LastWeights.{weights-within_class}
use Rattle.pq_base.proofs.Restrictions.{restrictions-compose}
use Rattle.pq_base.proofs.WeightLaws.{weights-least}
use Rattle.cover_quotient.proofs.canonical_answers.ClassesByWeight.{rank-within, weights-counted}
use Rattle.unique_answers.proofs.unique.CutParts.{cut-weight_count, cut-weight}

pub last-weight : (ws : List ℕ) → 0 < length ws → get_or ws (length ws - 1) 0 ≡ last_or_zero ws
last-weight [] h = absurd (omega arith)
last-weight (w ∷ []) h = refl
last-weight (w ∷ v ∷ ws) h =
    let place : length (w ∷ v ∷ ws) - 1 ≡ suc (length (v ∷ ws) - 1) = omega arith in
    ap (λ (i : ℕ). get_or (w ∷ v ∷ ws) i 0) place ∙ last-weight (v ∷ ws) (omega arith)

pub no_last : (ws : List ℕ) → length ws ≡ 0 → last_or_zero ws ≡ 0
no_last [] h = refl
no_last (w ∷ ws) h = absurd (omega arith)

module _ (A : Answer) (is : IsAnswer A) (k : ℕ) where
  abbrev N : Answer
  N = up_to_class A k

  -- what is at least each weight that stays is at least the class
  class-at_most : (b : ℕ) → ((i : ℕ) → i < rank_up_to A k → weight_at A i ≤ b) → class_of N ≤ b
  class-at_most b h = elim (cases_lt 0 (length N.weights)) [
    | inl some ↦
        let count = cut-weight_count A is k in
        let last : get_or N.weights (length N.weights - 1) 0 ≡ class_of N = last-weight N.weights some in
        let kept : weight_at N (length N.weights - 1) ≡ weight_at A (length N.weights - 1) =
        cut-weight A is k (length N.weights - 1) (omega arith) in
        let most = h (length N.weights - 1) (omega arith) in
        omega arith
    | inr none ↦ let nothing : class_of N ≡ 0 = no_last N.weights (omega arith) in omega arith
  ]

  pub cut-class : class_of (up_to_class A k) ≤ k
  cut-class = class-at_most k (λ i l. weights-counted 1 k A.weights is.weights i l)

  pub cut-class_no_more : class_of (up_to_class A k) ≤ class_of A
  cut-class_no_more =
      class-at_most (class_of A) (λ i l. let fits = rank-within A is k in weights-within_class A is i (omega arith))

  module _ (j : ℕ) (below : j ≤ k) where
    pub cut-twice : up_to_class (up_to_class A k) j ≡ up_to_class A j
    cut-twice = restrictions-compose A is.weights j k below

    pub cut-rank : rank_up_to (up_to_class A k) j ≡ rank_up_to A j
    cut-rank = ap (λ (B : Answer). B.presentation.rank) cut-twice

-- no generator has weight 0
pub cut-rank_zero : (A : Answer) → IsAnswer A → rank_up_to A 0 ≡ 0
cut-rank_zero A is = elim (cases_lt 0 (rank_up_to A 0)) [
  | inl some ↦
      let fits = rank-within A is 0 in
      let count : length A.weights ≡ A.presentation.rank = is.weight_count in
      let light = weights-counted 1 0 A.weights is.weights 0 some in
      let least = weights-least 1 A.weights is.weights 0 (omega arith) in
      absurd (omega arith)
  | inr none ↦ omega arith
]
