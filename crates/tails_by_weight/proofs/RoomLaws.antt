-- Since weights never fall, the generators before generator j whose weights leave room for a given one are as many as are counted, and
-- are the first ones.
use Rattle.std.proofs.Common.{◌≡◌, ℕ, zero, suc, ◌+◌, ◌-◌, ◌<◌, ◌≤◌, pred, min, List, get_or, length, inl, inr, arith}
use Rattle.std.proofs.lemmas.Bool.{cases_lt}
use Rattle.pq_base.specs.Answer.{Answer, IsAnswer, AreWeights, class_of}
use Rattle.pq_base.specs.Canonical.{weight_of, count_up_to, rank_up_to}
use Rattle.pq_base.proofs.ListMembers.{In, In-numbers, numbers-range}
use Rattle.pq_base.proofs.WeightLaws.{weights-least, weights-past_count}
use Rattle.cover_quotient.proofs.canonical_answers.ClassesByWeight.{weights-counted, rank-within}
use Rattle.tails_by_weight.specs.LightOverlaps.{with_room}

-- counted one after the other up to the first weight that is greater
pub count-stopped : (least w : ℕ) (ws : List ℕ) → AreWeights least ws → (k : ℕ) → k < length ws
    → ((i : ℕ) → i < k → get_or ws i 0 ≤ w) → w < get_or ws k 0 → count_up_to w ws ≡ k
count-stopped least w ws h k l below past = elim (cases_lt (count_up_to w ws) k) [
  | inl less ↦
      let small = below (count_up_to w ws) less in
      let great = weights-past_count least w ws h (count_up_to w ws) (omega arith) (omega arith) in
      absurd (omega arith)
  | inr more ↦ elim (cases_lt k (count_up_to w ws)) [
    | inl counted ↦ let small = weights-counted least w ws h k counted in absurd (omega arith)
    | inr same ↦ omega arith
  ]
]

-- where none of the first n is greater
pub count-at_least : (least w : ℕ) (ws : List ℕ) → AreWeights least ws → (n : ℕ) → n ≤ length ws
    → ((i : ℕ) → i < n → get_or ws i 0 ≤ w) → n ≤ count_up_to w ws
count-at_least least w ws h n l below = elim (cases_lt (count_up_to w ws) n) [
  | inl less ↦
      let small = below (count_up_to w ws) less in
      let great = weights-past_count least w ws h (count_up_to w ws) (omega arith) (omega arith) in
      absurd (omega arith)
  | inr more ↦ more
]

-- a generator before generator j whose weight, with the weight w, is at most the class and one
pub record HasRoom (A : Answer) (w j i : ℕ) : Type 0 where
  pub from_one : 1 ≤ i
  pub before : i < j
  pub room : w + weight_of A i ≤ suc (class_of A)

module _ (A : Answer) (is : IsAnswer A) where
  -- generators by weight
  pub rank_up_to-weight : (k i : ℕ) → 1 ≤ i → i ≤ rank_up_to A k → weight_of A i ≤ k
  rank_up_to-weight k zero a b = absurd (omega arith)
  rank_up_to-weight k (suc i) a b = weights-counted 1 k A.weights is.weights i (omega arith)

  pub weight-rank_up_to : (k i : ℕ) → i ≤ A.presentation.rank → weight_of A i ≤ k → i ≤ rank_up_to A k
  weight-rank_up_to k zero a b = omega arith
  weight-rank_up_to k (suc i) a b = elim (cases_lt i (rank_up_to A k)) [
    | inl counted ↦ counted
    | inr past ↦
        let long = is.weight_count in
        let great = weights-past_count 1 k A.weights is.weights i past (omega arith) in
        absurd (omega arith)
  ]

  pub weight-positive : (i : ℕ) → 1 ≤ i → i ≤ A.presentation.rank → 1 ≤ weight_of A i
  weight-positive zero a b = absurd (omega arith)
  weight-positive (suc i) a b = let long = is.weight_count in weights-least 1 A.weights is.weights i (omega arith)

  -- the members of the list of those with room
  pub with_room-has : (w j i : ℕ) → j ≤ A.presentation.rank → HasRoom A w j i → In i (with_room A w j)
  with_room-has w zero i l h = let before = h.before in absurd (omega arith)
  with_room-has w (suc j) i l h =
      let before = h.before in
      let room = h.room in
      let counted = weight-rank_up_to (suc (class_of A) - w) i (omega arith) (omega arith) in
      In-numbers 1 (min j (rank_up_to A (suc (class_of A) - w))) i h.from_one (omega arith)

  pub with_room-only : (w j i : ℕ) → j ≤ A.presentation.rank → In i (with_room A w j) → HasRoom A w j i
  with_room-only w j i l h =
      let k : ℕ = suc (class_of A) - w in
      let r = numbers-range 1 (min (pred j) (rank_up_to A k)) i h in
      let low = r.0 in
      let high = r.1 in
      let within = rank-within A is k in
      let small = rank_up_to-weight k i low (omega arith) in
      let some = weight-positive i low (omega arith) in
      record { from_one = low; before = omega arith; room = omega arith }
