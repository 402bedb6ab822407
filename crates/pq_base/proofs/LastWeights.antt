-- The weights of the next answer: they never fall, the last is one more than before, and up to the class before they are
-- those of the answer.
use Rattle.std.proofs.Common.{◌≡◌, ℕ, zero, suc, ◌+◌, ◌<◌, ◌≤◌, List, [], ◌∷◌, ◌++◌, get_or, length, replicate, refl, ◌∙◌, arith}
use Rattle.std.proofs.lemmas.List.{get_or-replicate, get_or_append_left, get_or-append-add}
use Rattle.pq_base.specs.Limits.{max_class}
use Rattle.pq_base.specs.Answer.{Answer, IsAnswer, last_or_zero, AreWeights, class_of, weight_at}

-- each weight is at most the last
pub first-at_most_last : (least w : ℕ) (ws : List ℕ) → AreWeights least (w ∷ ws) → w ≤ last_or_zero (w ∷ ws)
first-at_most_last least w [] h = omega arith
first-at_most_last least w (v ∷ ws) h =
    let here : w ≤ v = h.2.0 in
    let later = first-at_most_last w v ws h.2 in
    omega arith

pub weights-at_most_last : (least : ℕ) (ws : List ℕ) → AreWeights least ws → (k : ℕ) → k < length ws → get_or ws k 0 ≤ last_or_zero ws
weights-at_most_last least [] h k l = absurd (omega arith)
weights-at_most_last least (w ∷ ws) h zero l = first-at_most_last least w ws h
weights-at_most_last least (w ∷ []) h (suc k) l = absurd (omega arith)
weights-at_most_last least (w ∷ v ∷ ws) h (suc k) l = weights-at_most_last w (v ∷ ws) h.2 k (omega arith)

-- so no generator has a weight above the class
pub weights-within_class : (A : Answer) → IsAnswer A → (k : ℕ) → k < A.presentation.rank → weight_at A k ≤ class_of A
weights-within_class A is k l =
    let count : length A.weights ≡ A.presentation.rank = is.weight_count in
    weights-at_most_last 1 A.weights is.weights k (omega arith)

-- weights followed by copies of one that is no less
replicated-weights : (least w n : ℕ) → least ≤ w → w ≤ max_class → AreWeights least (replicate n w)
replicated-weights least w zero h l = tt
replicated-weights least w (suc n) h l = (h, l, replicated-weights w w n (omega arith) l)

pub weights-followed : (least w n : ℕ) (ws : List ℕ) → AreWeights least ws → least ≤ w → last_or_zero ws ≤ w → w ≤ max_class
    → AreWeights least (ws ++ replicate n w)
weights-followed least w n [] h l m few = replicated-weights least w n l few
weights-followed least w n (v ∷ []) h l m few = (h.0, h.1, replicated-weights v w n m few)
weights-followed least w n (v ∷ u ∷ ws) h l m few =
    let first = first-at_most_last v u ws h.2 in (
      h.0,
      h.1,
      weights-followed v w n (u ∷ ws) h.2 (let below : u ≤ last_or_zero (u ∷ ws) = first in let start : v ≤ u = h.2.0 in omega arith) m few,
    )

-- at class 0 there is no generator
pub no_weights : (ws : List ℕ) → AreWeights 1 ws → last_or_zero ws ≡ 0 → length ws ≡ 0
no_weights [] h e = refl
no_weights (w ∷ ws) h e =
    let one : 1 ≤ w = h.0 in
    let last = first-at_most_last 1 w ws h in
    absurd (omega arith)

-- the entries
pub weight-before : (ws : List ℕ) (w n k : ℕ) → k < length ws → get_or (ws ++ replicate n w) k 0 ≡ get_or ws k 0
weight-before ws w n k l = get_or_append_left ws (replicate n w) 0 k l

pub weight-new : (ws : List ℕ) (w n t : ℕ) → t < n → get_or (ws ++ replicate n w) (length ws + t) 0 ≡ w
weight-new ws w n t l = get_or-append-add ws (replicate n w) t 0 ∙ get_or-replicate n t w 0 l

-- the last
last-of_copies : (w n : ℕ) → last_or_zero (replicate (suc n) w) ≡ w
last-of_copies w zero = refl
last-of_copies w (suc n) = last-of_copies w n

pub last-followed : (ws : List ℕ) (w n : ℕ) → last_or_zero (ws ++ replicate (suc n) w) ≡ w
last-followed [] w n = last-of_copies w n
last-followed (v ∷ []) w n = last-of_copies w n
last-followed (v ∷ u ∷ ws) w n = last-followed (u ∷ ws) w n
