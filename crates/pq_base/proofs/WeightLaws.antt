-- Weights never fall, so the generators after those of weight at most k have greater weights.
use Rattle.std.proofs.Common.{◌≡◌, ℕ, zero, suc, ◌<◌, ◌≤◌, Bool, true, false, leb, List, [], ◌∷◌, get_or, length, refl, arith}
use Rattle.std.proofs.lemmas.Bool.{leb-false}
use Rattle.pq_base.specs.Answer.{AreWeights}
use Rattle.pq_base.specs.Canonical.{one_more_where, count_up_to}

pub weights-least : (least : ℕ) (ws : List ℕ) → AreWeights least ws → (j : ℕ) → j < length ws → least ≤ get_or ws j 0
weights-least least [] h j l = absurd (omega arith)
weights-least least (w ∷ ws) h zero l = h.0
weights-least least (w ∷ ws) h (suc j) l =
    let first = h.0 in
    let later = weights-least w ws h.2 j (omega arith) in
    omega arith

pub weights-rise : (least : ℕ) (ws : List ℕ) → AreWeights least ws → (i j : ℕ) → i ≤ j → j < length ws → get_or ws i 0 ≤ get_or ws j 0
weights-rise least [] h i j b l = absurd (omega arith)
weights-rise least (w ∷ ws) h zero zero b l = omega arith
weights-rise least (w ∷ ws) h zero (suc j) b l = weights-least w ws h.2 j (omega arith)
weights-rise least (w ∷ ws) h (suc i) zero b l = absurd (omega arith)
weights-rise least (w ∷ ws) h (suc i) (suc j) b l = weights-rise w ws h.2 i j (omega arith) (omega arith)

one_more-within : (b : Bool) (n m : ℕ) → n ≤ m → one_more_where b n ≤ suc m
one_more-within true n m h = omega arith
one_more-within false n m h = omega arith

pub count_up_to-within : (k : ℕ) (ws : List ℕ) → count_up_to k ws ≤ length ws
count_up_to-within k [] = omega arith
count_up_to-within k (w ∷ ws) = one_more-within (leb w k) (count_up_to k ws) (length ws) (count_up_to-within k ws)

pub weights-past_count : (least k : ℕ) (ws : List ℕ) → AreWeights least ws → (j : ℕ) → count_up_to k ws ≤ j → j < length ws
    → k < get_or ws j 0
weights-past_count least k [] h j b l = absurd (omega arith)
weights-past_count least k (w ∷ ws) h j b l = by_test (leb w k) refl (weights-past_count w k ws h.2) j b l
  where
    by_test : (t : Bool) → leb w k ≡ t → ((i : ℕ) → count_up_to k ws ≤ i → i < length ws → k < get_or ws i 0)
        → (i : ℕ) → one_more_where t (count_up_to k ws) ≤ i → i < length (w ∷ ws) → k < get_or (w ∷ ws) i 0
    by_test true e rest zero b l = absurd (omega arith)
    by_test true e rest (suc i) b l = rest i (omega arith) (omega arith)
    by_test false e rest zero b l = leb-false w k e
    by_test false e rest (suc i) b l =
        let first = leb-false w k e in
        let later = weights-least w ws h.2 i (omega arith) in
        omega arith
