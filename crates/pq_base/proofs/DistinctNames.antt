-- Distinct names: each has one place, and whether a name stands again behind its place.
use Rattle.std.proofs.Common.{◌≡◌, ◌≢◌, ℕ, ◌+◌, ◌-◌, ◌<◌, List, [], get_or, length, drop, true, false, nat_eq, inl, inr, ap, sym, ◌∙◌}
use Rattle.std.proofs.Common.{arith}
use Rattle.std.proofs.lemmas.Bool.{both_ways, cases_order}
use Rattle.std.proofs.lemmas.List.{length-drop, get_or-drop, get_or_read}
use Rattle.std.specs.Cmp.Lexicographic.{pointwise, bytes_decides}
use Rattle.pq_base.specs.LPresentation.{AreDistinct}

-- a name that stands again
pub repeated : (names : List (List ℕ)) (i k : ℕ) (x : List ℕ) → x ≡ get_or names i x → k < length (drop (i + 1) names)
    → ((d : List ℕ) → pointwise nat_eq (get_or (drop (i + 1) names) k d) x ≡ true) → ¬ AreDistinct names
repeated names i k x here below same distinct =
    let long : length (drop (i + 1) names) ≡ length names - (i + 1) = length-drop (i + 1) names in
    distinct i (i + 1 + k) (omega arith) (omega arith)
    (sym (get_or_read names i x (omega arith) here [])
    ∙ sym ((bytes_decides (get_or (drop (i + 1) names) k []) x).0 (same []))
    ∙ get_or-drop (i + 1) names k [])

-- a name that doesn't stand again
pub unrepeated : (names : List (List ℕ)) (i k : ℕ) (x : List ℕ) → x ≡ get_or names i x → i < k → k < length names
    → ((j : ℕ) (d : List ℕ) → j < length (drop (i + 1) names) → pointwise nat_eq (get_or (drop (i + 1) names) j d) x ≡ false)
    → get_or names i [] ≢ get_or names k []
unrepeated names i k x here after below other same =
    let long : length (drop (i + 1) names) ≡ length names - (i + 1) = length-drop (i + 1) names in
    let place : i + 1 + (k - (i + 1)) ≡ k = omega arith in
    let there : get_or (drop (i + 1) names) (k - (i + 1)) [] ≡ x =
    get_or-drop (i + 1) names (k - (i + 1)) [] ∙ ap (λ (j : ℕ). get_or names j []) place ∙ sym same
    ∙ sym (get_or_read names i x (omega arith) here []) in
    both_ways (pointwise nat_eq (get_or (drop (i + 1) names) (k - (i + 1)) []) x) (other (k - (i + 1)) [] (omega arith))
    ((bytes_decides (get_or (drop (i + 1) names) (k - (i + 1)) []) x).1 there)

-- names that are equal stand at one place
pub place_unique : (names : List (List ℕ)) (i j : ℕ) → AreDistinct names → i < length names → j < length names
    → get_or names i [] ≡ get_or names j [] → i ≡ j
place_unique names i j distinct hi hj same = elim (cases_order i j) [
  | inl e ↦ e
  | inr apart ↦ elim apart [
    | inl lt ↦ absurd (distinct i j lt hj same)
    | inr gt ↦ absurd (distinct j i gt hi (sym same))
  ]
]
